use Rattle.std.proofs.Common.{◌≡◌, ◌∷◌, [], ◌++◌, reverse, map, sym, ap, subst, ◌∙◌}
use Rattle.std.specs.HashMap.{get_by}
use Rattle.base_types.specs.Names.{is_same_name}
use Rattle.est_expand.specs.declared.scope.Bound.{Bound}
use Rattle.est_expand.specs.Scopes.{meaning}
use Rattle.est_expand.specs.Tables.{bound_name, names_of, Hides}
use Rattle.est_expand.proofs.ScopeTables.{reverse-push, meaning-bound}
use Rattle.est_expand.proofs.scope.Scope.bind.Goals as goal

pub invariant_of-self-2 : goal.invariant_of-self-2
invariant_of-self-2 c =
    let bound : Bound = record { name = c.args.name; meaning = c.args.meaning; hidden = c.in_ok-hidden.hidden } in
    let old = c.self.inside in
    let behind : reverse c.push.new.self.items ≡ bound ∷ reverse old.bound.items =
    ap reverse (c.in_ok-push.ensures.items ∙ ap (λ l. l ++ bound ∷ []) c.reserve.ensures.items) ∙ reverse-push old.bound.items bound in
    record {
      found = λ n. c.in_ok-hidden.ensures.updates.0 (record { ref_ptr = (0, 0); now = n })
          ∙ meaning-bound (λ n. get_by (λ k. is_same_name n k.now) old.latest) (names_of old) c.args.name.now c.args.meaning c.self.invariant.found n
          ∙ sym (ap (λ l. meaning (map bound_name l) n) behind);
      hides = subst Hides (sym behind) (c.in_ok-hidden.ensures.old ∙ c.self.invariant.found c.args.name.now, c.self.invariant.hides);
    }

use Rattle.std.proofs.Common.{◌≡◌, ◌∷◌, reverse, map, sym, ap, subst, ◌∙◌, Some, None}
use Rattle.std.specs.HashMap.{get_by}
use Rattle.std.specs.Cmp.Lexicographic.{nat_list_eq_equiv}
use Rattle.std.specs.Prelude.{if◌then◌else◌}
use Rattle.base_types.specs.Names.{is_same_name}
use Rattle.est_expand.specs.Scopes.{meaning}
use Rattle.est_expand.specs.Tables.{bound_name, Hides}
use Rattle.est_expand.proofs.ScopeTables.{reverse-push, meaning-unbound}
use Rattle.est_expand.proofs.scope.Scope.unbind.Goals as goal

pub invariant_of-self : goal.invariant_of-self
invariant_of-self c =
    let old = c.self.inside in
    let bound = c.in-Some.bound in
    let behind : reverse old.bound.items ≡ bound ∷ reverse c.pop.new.self.items =
    ap reverse c.in-Some.ensures.items ∙ reverse-push c.pop.new.self.items bound in
    let hides = subst Hides behind c.self.invariant.hides in
    record {
      found = λ n. c.remove.ensures.updates.0 (record { ref_ptr = (0, 0); now = n })
          ∙ meaning-unbound (λ n. get_by (λ k. is_same_name n k.now) old.latest)
          (map bound_name (reverse c.pop.new.self.items)) bound.name.now bound.meaning None
          (λ n. c.self.invariant.found n ∙ ap (λ l. meaning (map bound_name l) n) behind) (sym c.in-None.is ∙ hides.0) n;
      hides = hides.1;
    }

pub invariant_of-self-in-Ok : goal.invariant_of-self-in-Ok
invariant_of-self-in-Ok c =
    let old = c.self.inside in
    let bound = c.in-Some.bound in
    let behind : reverse old.bound.items ≡ bound ∷ reverse c.pop.new.self.items =
    ap reverse c.in-Some.ensures.items ∙ reverse-push c.pop.new.self.items bound in
    let hides = subst Hides behind c.self.invariant.hides in
    record {
      found = λ n. c.in-Ok.ensures.updates.0 (record { ref_ptr = (0, 0); now = n })
          ∙ meaning-unbound (λ n. get_by (λ k. is_same_name n k.now) old.latest) (map bound_name (reverse c.pop.new.self.items)) bound.name.now bound.meaning
          (Some c.in-Some-hidden.meaning)
          (λ n. c.self.invariant.found n ∙ ap (λ l. meaning (map bound_name l) n) behind) (sym c.in-Some-hidden.is ∙ hides.0) n;
      hides = hides.1;
    }

-- the name is in the table
pub invariant_of-self-in-Err : goal.invariant_of-self-in-Err
invariant_of-self-in-Err c =
    let bound = c.in-Some.bound in
    let behind : reverse c.self.inside.bound.items ≡ bound ∷ reverse c.pop.new.self.items =
    ap reverse c.in-Some.ensures.items ∙ reverse-push c.pop.new.self.items bound in
    let there = c.self.invariant.found bound.name.now ∙ ap (λ l. meaning (map bound_name l) bound.name.now) behind
    ∙ ap (λ b. if b then Some bound.meaning else meaning (map bound_name (reverse c.pop.new.self.items)) bound.name.now)
    (nat_list_eq_equiv.refl bound.name.now) in
    let none_some : None ≡ Some bound.meaning = sym c.in-Err.ensures.absent ∙ there in
    absurd (cc)

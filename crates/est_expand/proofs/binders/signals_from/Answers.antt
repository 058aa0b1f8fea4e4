use Rattle.std.proofs.Common.{◌≡◌, ℕ, ◌+◌, ◌++◌, ◌∷◌, [], List, Bor, map, drop, ap, sym, ◌∙◌, append_assoc, arith}
use Rattle.std.proofs.lemmas.List.{map-append, at_drop_more}
use Rattle.base_types.specs.declared.indices.SigId.{SigId}
use Rattle.est_expand.specs.Flattening.{numbers}
use Rattle.est_expand.proofs.binders.signals_from.Goals as goal

pub loop-name-preserved : goal.loop-name-preserved
loop-name-preserved c =
    let i = c.loop-name._name-index in
    let texts = λ (names : List (Bor (List ℕ))). map (λ (name : Bor (List ℕ)). name.now) names in
    let found = map (λ (s : SigId). s.0) c.loop-name.found.items in
    let rest = numbers (c.loop-name.next + 1) (texts (drop (i + 1) c.args.names.now)) in
    let one = at_drop_more (λ names. numbers c.loop-name.next (texts names)) c.args.names.now i (record { ref_ptr = (0, 0); now = [] }) (omega arith) in
    let items : map (λ (s : SigId). s.0) c.push.new.self.items ≡ found ++ c.loop-name.next ∷ [] = ap (map (λ (s : SigId). s.0)) c.in_ok-push.ensures.items
    ∙ map-append _ _ _ in
    record {
      number = omega arith;
      left = ap (λ l. l ++ rest) items ∙ append_assoc found (c.loop-name.next ∷ []) rest ∙ sym (ap (λ l. found ++ l) one) ∙ c.loop-name.invariant.left;
    }

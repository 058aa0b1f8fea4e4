use Rattle.std.proofs.Common.{◌≡◌, ◌∙◌, ◌++◌, ◌∷◌, ◌+◌, [], rules, inl, inr, ap, sym, map, length}
use Rattle.std.proofs.lemmas.Result.{on_ok_weaker}
use Rattle.std.proofs.lemmas.List.{map-append, length-map}
use Rattle.est_kernel.specs.Plain.{term_of}
use Rattle.est_kernel.specs.Preorder.{statement_count}
use Rattle.grc_list.specs.Places.{place, places}
use Rattle.grc_list.specs.PlaceViews.{place_of}
use Rattle.grc_list.proofs.Climbing.{two_behind}
use Rattle.grc_list.proofs.places.+push_places.Goals as goal

-- the forms with two parts
pub returns-in_ok-push_places-in-Present : goal.returns-in_ok-push_places-in-Present
returns-in_ok-push_places-in-Present t c =
    let old = c.args.list.now.items in
    let l1 = c.push.new.self.items in
    let l2 = c.push_places-in-Present.new.list.items in
    let n = c.len-at.result in
    let counted : n ≡ length old = search rules in
    let a = c.args.parent in
    let child = c.args.child in
    let whole = term_of c.args.statement.now in
    let p = term_of c.deref-in-Present.result.now in
    let q = term_of c.deref-in-Present-2.result.now in
    let pushed : map place_of l1 ≡ map place_of old ++ place a child whole ∷ [] =
    ap (map place_of) c.in_ok-push.ensures.items ∙ map-append place_of old _
    ∙ ap (λ b. map place_of old ++ record { parent = a; child = child; bound = b } ∷ []) c.bound_signal.ensures in
    let first : map place_of l2 ≡ map place_of l1 ++ places n 0 p (length l1) = c.in_ok-push_places-in-Present.ensures in
    let parts : places a child whole n ≡ place a child whole ∷ (places n 0 p (n + 1) ++ places n 1 q (n + (1 + statement_count p))) =
    elim c.in-Present.is [
      | inl h ↦ simp (h.1, c.deref-in-Present.ensures, c.deref-in-Present-2.ensures)
      | inr k ↦ elim k [
        | inl h ↦ simp (h, c.deref-in-Present.ensures, c.deref-in-Present-2.ensures)
        | inr h ↦ simp (h, c.deref-in-Present.ensures, c.deref-in-Present-2.ensures)
      ]
    ] in
    on_ok_weaker c.push_places-in-Present-2.result (λ last. two_behind (map place_of old) (map place_of l1) (map place_of l2) _ a child n
    (length l1) (length l2) whole p q
    pushed (counted ∙ sym (length-map old place_of)) (sym (length-map l1 place_of)) (sym (length-map l2 place_of)) first last parts
    ∙ ap (λ k. map place_of old ++ places a child whole k) counted) c.push_places-in-Present-2.ensures

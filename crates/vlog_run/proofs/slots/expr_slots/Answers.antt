use Rattle.std.proofs.Common.{◌≡◌, ℕ, ◌+◌, ◌++◌, List, [], ◌∷◌, map, take, get_or, sym, ap, ◌∙◌, arith, Bor}
use Rattle.std.proofs.lemmas.List.{map-append, take_more}
use Rattle.run_steps.specs.Slots.{slot_in}
use Rattle.vlog_run.proofs.slots.expr_slots.Goals as goal

pub loop-name-preserved : goal.loop-name-preserved
loop-name-preserved c =
    let bytes = λ (w : Bor (List ℕ)). w.now in
    let none : Bor (List ℕ) = record { ref_ptr = (0, 0); now = [] } in
    let slot = slot_in (map bytes c.args.slots.now.keys) in
    let items = c.deref-name-items.result.now in
    let i = c.loop-name.name-index in
    let more : take (i + 1) items ≡ take i items ++ get_or items i none ∷ [] = take_more items i none (omega arith) in
    c.in_ok-push.ensures.items ∙ ap (λ l. l ++ c.slot_of.result ∷ []) c.loop-name.invariant
    ∙ ap (λ s. map slot (map bytes (take i items)) ++ s ∷ []) c.slot_of.ensures
    ∙ sym (ap (λ l. map slot (map bytes l)) more ∙ ap (map slot) (map-append bytes (take i items) (get_or items i none ∷ []))
    ∙ map-append slot (map bytes (take i items)) (bytes (get_or items i none) ∷ []))

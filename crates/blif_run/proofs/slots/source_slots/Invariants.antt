use Rattle.std.proofs.Common.{◌≡◌, map, take}
use Rattle.blif_text.specs.Plain.{plain_latch}
use Rattle.run_steps.specs.Slots.{slot_in}
use Rattle.blif_run.proofs.slots.source_slots.Given as goal

abbrev pub invariant-loop-latch : goal.invariant-loop-latch
invariant-loop-latch l =
    l.found.items ≡ map (slot_in (map (λ k. k.now) l.slots.keys)) (map (λ x. x.source) (map plain_latch (take l.latch-index l.latches)))

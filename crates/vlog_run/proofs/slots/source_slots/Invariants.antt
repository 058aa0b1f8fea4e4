use Rattle.std.proofs.Common.{◌≡◌, map, take}
use Rattle.run_steps.specs.Slots.{slot_in}
use Rattle.vlog_text.specs.Views.{register_of}
use Rattle.vlog_run.proofs.slots.source_slots.Given as goal

abbrev pub invariant-loop-register : goal.invariant-loop-register
invariant-loop-register l =
    l.found.items ≡ map (slot_in (map (λ k. k.now) l.slots.keys)) (map (λ x. x.from) (map register_of (take l.register-index l.registers)))

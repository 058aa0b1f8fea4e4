use Rattle.std.proofs.Common.{◌≡◌, map, take}
use Rattle.run_steps.specs.Slots.{slot_in}
use Rattle.vlog_run.proofs.slots.expr_slots.Given as goal

abbrev pub invariant-loop-name : goal.invariant-loop-name
invariant-loop-name l = l.found.items ≡ map (slot_in (map (λ k. k.now) l.slots.keys)) (map (λ w. w.now) (take l.name-index l.name-items))

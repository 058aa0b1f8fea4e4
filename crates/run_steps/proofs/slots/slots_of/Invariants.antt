use Rattle.std.proofs.Common.{◌≡◌, map, take}
use Rattle.run_steps.specs.Slots.{slot_in}
use Rattle.run_steps.proofs.slots.slots_of.Given as goal

abbrev pub invariant-loop-name : goal.invariant-loop-name
invariant-loop-name l = l.found.items ≡ map (slot_in (map (λ k. k.now) l.slots.keys)) (take l.name-index l.names)

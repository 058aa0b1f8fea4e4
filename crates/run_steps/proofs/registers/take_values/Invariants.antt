use Rattle.std.proofs.Common.{◌≡◌, map, take}
use Rattle.run_steps.specs.Slots.{value_at}
use Rattle.run_steps.proofs.registers.take_values.Given as goal

abbrev pub invariant-loop-k : goal.invariant-loop-k
invariant-loop-k l = take l.k l.taken ≡ map (value_at l.values) (take l.k l.slots)

use Rattle.std.proofs.Common.{◌≡◌, false, take, replicate}
use Rattle.run_steps.proofs.registers.put_false.Given as goal

abbrev pub invariant-loop-value : goal.invariant-loop-value
invariant-loop-value l = take l.value-index l.values ≡ replicate l.value-index false

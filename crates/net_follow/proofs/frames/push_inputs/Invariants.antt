use Rattle.std.proofs.Common.{◌≡◌, ◌++◌, take}
use Rattle.net_follow.specs.Frames.{input_equations}
use Rattle.net_follow.proofs.frames.push_inputs.Given as goal

abbrev pub invariant-loop-k : goal.invariant-loop-k
invariant-loop-k l = l.list.items ≡ l.initial.list.items ++ input_equations l.late (take l.k l.inputs)

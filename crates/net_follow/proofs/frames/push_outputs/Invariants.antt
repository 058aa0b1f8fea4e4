use Rattle.std.proofs.Common.{◌≡◌, ◌++◌, take}
use Rattle.net_follow.specs.Frames.{output_equations}
use Rattle.net_follow.proofs.frames.push_outputs.Given as goal

abbrev pub invariant-loop-k : goal.invariant-loop-k
invariant-loop-k l = l.list.items ≡ l.initial.list.items ++ output_equations (take l.k l.old) (take l.k l.new)

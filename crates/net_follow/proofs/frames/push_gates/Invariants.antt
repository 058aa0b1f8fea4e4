use Rattle.std.proofs.Common.{◌≡◌, ◌++◌, take}
use Rattle.net_follow.specs.Frames.{gate_equations}
use Rattle.net_follow.proofs.frames.push_gates.Given as goal

abbrev pub invariant-loop-k : goal.invariant-loop-k
invariant-loop-k l = l.list.items ≡ l.initial.list.items ++ gate_equations l.late l.side l.first (take l.k l.gates)

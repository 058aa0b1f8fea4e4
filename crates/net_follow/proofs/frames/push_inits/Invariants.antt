use Rattle.std.proofs.Common.{◌≡◌, ◌++◌, take}
use Rattle.net_follow.specs.Frames.{init_equations}
use Rattle.net_follow.proofs.frames.push_inits.Given as goal

abbrev pub invariant-loop-k : goal.invariant-loop-k
invariant-loop-k l = l.list.items ≡ l.initial.list.items ++ init_equations l.side l.first (take l.k l.latches)

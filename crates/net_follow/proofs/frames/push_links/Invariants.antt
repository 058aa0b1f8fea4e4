use Rattle.std.proofs.Common.{◌≡◌, ◌++◌, take}
use Rattle.net_follow.specs.Frames.{link_equations}
use Rattle.net_follow.proofs.frames.push_links.Given as goal

abbrev pub invariant-loop-k : goal.invariant-loop-k
invariant-loop-k l = l.list.items ≡ l.initial.list.items ++ link_equations l.side l.first (take l.k l.latches)

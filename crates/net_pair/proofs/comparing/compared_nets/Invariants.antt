use Rattle.std.proofs.Common.{◌≡◌, ◌++◌, drop}
use Rattle.net_pair.specs.Layout.{compared_outputs, moved}
use Rattle.net_pair.proofs.comparing.compared_nets.Given as goal

abbrev pub invariant-loop-k : goal.invariant-loop-k
invariant-loop-k l =
    l.pairs.items ++ compared_outputs (moved l.shifts.left) (moved l.shifts.right) (drop l.k l.left.outputs.items) (drop l.k l.right.outputs.items)
    ≡ compared_outputs (moved l.shifts.left) (moved l.shifts.right) l.left.outputs.items l.right.outputs.items

use Rattle.std.proofs.Common.{◌≡◌, take}
use Rattle.net_cycles.proofs.drawing.first_nets.Given as goal

abbrev pub invariant-loop-net : goal.invariant-loop-net
invariant-loop-net l = record { made : l.made.items ≡ take l.net-index (take l.count l.nets) }

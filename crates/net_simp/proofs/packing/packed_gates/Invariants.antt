use Rattle.std.proofs.Common.{take}
use Rattle.net_simp.specs.Packing.{Packed}
use Rattle.net_simp.proofs.packing.packed_gates.Given as goal

abbrev pub invariant-loop-k : goal.invariant-loop-k
invariant-loop-k l = Packed l.first l.marks (take l.k l.gates) l.kept.items l.names.items

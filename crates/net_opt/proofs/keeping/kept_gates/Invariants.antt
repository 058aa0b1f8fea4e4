use Rattle.std.proofs.Common.{◌≡◌, map, take}
use Rattle.net_simp.specs.Renaming.{stand_in}
use Rattle.net_opt.specs.Keeping.{kept, kept_gate}
use Rattle.net_opt.proofs.keeping.kept_gates.Given as goal

abbrev pub invariant-loop-k : goal.invariant-loop-k
invariant-loop-k l = l.left.items ≡ map (kept_gate (stand_in l.names)) (kept l.marks l.first (take l.k l.gates))

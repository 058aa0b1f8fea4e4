use Rattle.std.proofs.Common.{◌≡◌, map, take}
use Rattle.net_simp.specs.Renaming.{stand_in, renamed_latch}
use Rattle.net_opt.specs.Keeping.{kept}
use Rattle.net_opt.proofs.keeping.kept_latches.Given as goal

abbrev pub invariant-loop-k : goal.invariant-loop-k
invariant-loop-k l = l.left.items ≡ map (renamed_latch (stand_in l.names)) (kept l.marks l.first (take l.k l.latches))

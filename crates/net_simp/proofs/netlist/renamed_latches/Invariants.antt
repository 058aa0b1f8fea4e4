use Rattle.std.proofs.Common.{◌≡◌, map, take}
use Rattle.net_simp.specs.Renaming.{through, renamed_latch}
use Rattle.net_simp.proofs.netlist.renamed_latches.Given as goal

abbrev pub invariant-loop-latch : goal.invariant-loop-latch
invariant-loop-latch l = l.renamed.items ≡ map (renamed_latch (through l.draft l.kept)) (take l.latch-index l.latches)

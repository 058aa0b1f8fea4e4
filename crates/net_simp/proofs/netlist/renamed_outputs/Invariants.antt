use Rattle.std.proofs.Common.{◌≡◌, map, take}
use Rattle.net_simp.specs.Renaming.{through, renamed_out}
use Rattle.net_simp.proofs.netlist.renamed_outputs.Given as goal

abbrev pub invariant-loop-output : goal.invariant-loop-output
invariant-loop-output l = l.renamed.items ≡ map (renamed_out (through l.draft l.kept)) (take l.output-index l.outputs)

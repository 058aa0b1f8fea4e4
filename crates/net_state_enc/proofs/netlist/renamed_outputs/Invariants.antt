use Rattle.std.proofs.Common.{◌≡◌, map, take}
use Rattle.net_simp.specs.Renaming.{stand_in, renamed_out}
use Rattle.net_state_enc.proofs.netlist.renamed_outputs.Given as goal

abbrev pub invariant-loop-output : goal.invariant-loop-output
invariant-loop-output l = l.renamed.items ≡ map (renamed_out (stand_in l.names)) (take l.output-index l.outputs)

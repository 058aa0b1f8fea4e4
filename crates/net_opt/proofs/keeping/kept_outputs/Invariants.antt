use Rattle.std.proofs.Common.{◌≡◌, map, take}
use Rattle.net_simp.specs.Renaming.{stand_in}
use Rattle.net_opt.specs.Keeping.{kept_output}
use Rattle.net_opt.proofs.keeping.kept_outputs.Given as goal

abbrev pub invariant-loop-output : goal.invariant-loop-output
invariant-loop-output l = l.nets.items ≡ map (kept_output (stand_in l.names)) (take l.output-index l.outputs)

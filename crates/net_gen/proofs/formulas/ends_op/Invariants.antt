use Rattle.std.proofs.Common.{◌-◌}
use Rattle.net_gen.specs.Drawings.{drawing_of}
use Rattle.net_gen.proofs.EndRuns.{RunMade}
use Rattle.net_gen.proofs.formulas.ends_op.Given as goal

abbrev pub invariant-loop-wire : goal.invariant-loop-wire
invariant-loop-wire l = RunMade l.graph l.words (drawing_of l.initial.circuit) (drawing_of l.circuit) l.so_far l.first (l.wire - l.first)

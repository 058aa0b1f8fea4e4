use Rattle.std.proofs.Common.{take}
use Rattle.net_gen.specs.Drawings.{drawing_of}
use Rattle.net_gen.specs.Growing.{Joins}
use Rattle.net_gen.proofs.formulas.any_of.Given as goal

abbrev pub invariant-loop-wire : goal.invariant-loop-wire
invariant-loop-wire l = Joins l.graph l.words (drawing_of l.initial.circuit) (drawing_of l.circuit) l.so_far (take l.wire-index l.wires)

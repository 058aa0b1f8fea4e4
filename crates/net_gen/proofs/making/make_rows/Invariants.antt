use Rattle.net_gen.specs.Drawings.{drawing_of}
use Rattle.net_gen.specs.Making.{RowsMade}
use Rattle.net_gen.proofs.making.make_rows.Given as goal

abbrev pub invariant-loop-row : goal.invariant-loop-row
invariant-loop-row l = RowsMade l.graph l.words (drawing_of l.initial.circuit) (drawing_of l.circuit) l.from l.row

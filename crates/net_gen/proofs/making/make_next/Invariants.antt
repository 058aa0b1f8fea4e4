use Rattle.net_gen.specs.Drawings.{drawing_of}
use Rattle.net_gen.specs.Making.{NextMade}
use Rattle.net_gen.proofs.making.make_next.Given as goal

abbrev pub invariant-loop-formula : goal.invariant-loop-formula
invariant-loop-formula l = NextMade l.graph l.words (drawing_of l.initial.circuit) (drawing_of l.circuit) l.nets.items l.formula-index

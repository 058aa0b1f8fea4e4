use Rattle.net_gen.specs.Drawings.{drawing_of}
use Rattle.net_gen.specs.Making.{WiresMade}
use Rattle.net_gen.proofs.making.make_wires.Given as goal

abbrev pub invariant-loop-wire : goal.invariant-loop-wire
invariant-loop-wire l = WiresMade l.graph l.words (drawing_of l.initial.circuit) (drawing_of l.circuit) l.order.list.items l.wire-index

use Rattle.grc_formulas.specs.WordLaws.{is_end_upto}
use Rattle.grc_evaluate.specs.Evaluations.{value_at}
use Rattle.grc_evaluate.proofs.Ends.{Passed}
use Rattle.grc_evaluate.proofs.formulas.ends_by.Given as goal

abbrev pub invariant-loop-wire : goal.invariant-loop-wire
invariant-loop-wire l = Passed (is_end_upto l.instance.0 l.code) (value_at l.wires) l.graph.wires.items l.first l.wire

use Rattle.cec_prove_covers.specs.Portions.{HasLines}
use Rattle.cec_prove_covers.proofs.portions.push_reaches.Given as goal

abbrev pub invariant-loop-number : goal.invariant-loop-number
invariant-loop-number l = HasLines l.asked l.first l.initial.lines → HasLines l.asked l.number l.lines

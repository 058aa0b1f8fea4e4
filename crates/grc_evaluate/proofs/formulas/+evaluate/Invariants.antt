use Rattle.grc_evaluate.proofs.Steps.{weight}
use Rattle.grc_evaluate.proofs.formulas.+evaluate.Given as goal

abbrev pub decreases-evaluate : goal.decreases-evaluate
decreases-evaluate l = weight l.formula.now

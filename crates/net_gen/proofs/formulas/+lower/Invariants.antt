use Rattle.net_gen.proofs.Weights.{weight}
use Rattle.net_gen.proofs.formulas.+lower.Given as goal

abbrev pub decreases-lower : goal.decreases-lower
decreases-lower l = weight l.formula.now

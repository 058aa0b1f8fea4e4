use Rattle.net_cycles.proofs.Lowering.{weight}
use Rattle.net_cycles.proofs.formulas.+lower.Given as goal

abbrev pub decreases-lower : goal.decreases-lower
decreases-lower l = weight l.formula.now

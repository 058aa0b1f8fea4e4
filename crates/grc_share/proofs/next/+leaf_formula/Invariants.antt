use Rattle.grc_share.proofs.RenamedFormulas.{weight}
use Rattle.grc_share.proofs.next.+leaf_formula.Given as goal

abbrev pub decreases-leaf_formula : goal.decreases-leaf_formula
decreases-leaf_formula l = weight l.formula.now

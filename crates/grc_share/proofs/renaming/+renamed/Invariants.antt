use Rattle.grc_share.proofs.RenamedFormulas.{weight}
use Rattle.grc_share.proofs.renaming.+renamed.Given as goal

abbrev pub decreases-renamed : goal.decreases-renamed
decreases-renamed l = weight l.formula.now

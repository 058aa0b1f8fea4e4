use Rattle.est_ternary.proofs.Monotone.{walk_below}
use Rattle.est_ternary.proofs.laws.walks_are_monotone.Goals as goal

pub returns : goal.returns
returns c = walk_below

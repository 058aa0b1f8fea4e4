use Rattle.est_ternary.proofs.Walks.{walk_tells}
use Rattle.est_ternary.proofs.laws.walks_tell_potentials.Goals as goal

pub returns : goal.returns
returns c = walk_tells

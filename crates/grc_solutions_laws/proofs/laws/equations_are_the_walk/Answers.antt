use Rattle.grc_solutions_laws.proofs.WalkSolves.{equations_are_the_walk_lem}
use Rattle.grc_solutions_laws.proofs.laws.equations_are_the_walk.Goals as goal

pub returns : goal.returns
returns c = equations_are_the_walk_lem

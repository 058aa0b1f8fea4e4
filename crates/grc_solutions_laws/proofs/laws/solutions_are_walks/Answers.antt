use Rattle.grc_solutions_laws.proofs.GraphLaws.{solutions_are_walks_lem}
use Rattle.grc_solutions_laws.proofs.laws.solutions_are_walks.Goals as goal

pub returns : goal.returns
returns c = solutions_are_walks_lem

use Rattle.grc_ternary.proofs.Reactions.{least_is_there_lem}
use Rattle.grc_ternary.proofs.laws.least_solution_is_there.Goals as goal

pub returns : goal.returns
returns c = least_is_there_lem

use Rattle.grc_ternary.proofs.Reactions.{known_reacts_lem}
use Rattle.grc_ternary.proofs.laws.known_solutions_react.Goals as goal

pub returns : goal.returns
returns c = known_reacts_lem

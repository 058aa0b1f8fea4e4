use Rattle.grc_ternary.proofs.Acyclic.{solutions_are_reactions_lem}
use Rattle.grc_ternary.proofs.laws.solutions_are_reactions.Goals as goal

pub returns : goal.returns
returns c = solutions_are_reactions_lem

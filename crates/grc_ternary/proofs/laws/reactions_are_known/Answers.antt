use Rattle.grc_ternary.proofs.Reactions.{reacts_known_lem}
use Rattle.grc_ternary.proofs.laws.reactions_are_known.Goals as goal

pub returns : goal.returns
returns c = reacts_known_lem

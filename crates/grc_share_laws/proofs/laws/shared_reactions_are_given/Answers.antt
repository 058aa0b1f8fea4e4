use Rattle.grc_share_laws.proofs.SharedRuns.{shared_reactions_are_given_lem}
use Rattle.grc_share_laws.proofs.laws.shared_reactions_are_given.Goals as goal

pub returns : goal.returns
returns c = shared_reactions_are_given_lem

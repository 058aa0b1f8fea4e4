use Rattle.grc_share_laws.proofs.SharedRuns.{runs_are_shared_lem}
use Rattle.grc_share_laws.proofs.laws.runs_are_shared.Goals as goal

pub returns : goal.returns
returns c = runs_are_shared_lem

use Rattle.grc_share_laws.proofs.SharedRuns.{shared_runs_are_runs_lem}
use Rattle.grc_share_laws.proofs.laws.shared_runs_are_runs.Goals as goal

pub returns : goal.returns
returns c = shared_runs_are_runs_lem

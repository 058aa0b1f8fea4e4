use Rattle.grc_share_laws.proofs.SharedRuns.{shared_graphs_run_lem}
use Rattle.grc_share_laws.proofs.laws.shared_graphs_run.Goals as goal

pub returns : goal.returns
returns c = shared_graphs_run_lem

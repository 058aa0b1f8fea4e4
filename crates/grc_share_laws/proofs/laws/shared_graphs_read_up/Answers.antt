use Rattle.grc_share_laws.proofs.SharedOnce.{shared_graphs_read_up_lem}
use Rattle.grc_share_laws.proofs.laws.shared_graphs_read_up.Goals as goal

pub returns : goal.returns
returns c = shared_graphs_read_up_lem

use Rattle.grc_share_laws.proofs.SharedRanks.{shared_ranks_go_up_lem}
use Rattle.grc_share_laws.proofs.laws.shared_ranks_go_up.Goals as goal

pub returns : goal.returns
returns c = shared_ranks_go_up_lem c.edges_join_wires.ensures

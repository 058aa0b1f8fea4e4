use Rattle.grc_share_laws.proofs.SharedOnce.{shared_reads_have_walks_lem}
use Rattle.grc_share_laws.proofs.laws.shared_reads_have_walks.Goals as goal

pub returns : goal.returns
returns c = shared_reads_have_walks_lem

use Rattle.grc_share.proofs.Exports.{shared-differ}
use Rattle.grc_share_laws.proofs.laws.shared_wires_differ.Goals as goal

pub returns : goal.returns
returns c = shared-differ

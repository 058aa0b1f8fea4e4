use Rattle.grc_share_laws.proofs.SharedRuns.{shared_wires_are_members_lem}
use Rattle.grc_share_laws.proofs.laws.shared_wires_are_members.Goals as goal

pub returns : goal.returns
returns c = shared_wires_are_members_lem

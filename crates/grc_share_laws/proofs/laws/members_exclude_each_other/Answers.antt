use Rattle.grc_share_laws.proofs.Excluded.{members_exclude_each_other_lem}
use Rattle.grc_share_laws.proofs.laws.members_exclude_each_other.Goals as goal

pub returns : goal.returns
returns c = members_exclude_each_other_lem

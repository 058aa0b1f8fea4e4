use Rattle.grc_share_laws.proofs.Excluded.{keys_tell_apart_lem}
use Rattle.grc_share_laws.proofs.laws.keys_tell_apart.Goals as goal

pub returns : goal.returns
returns c = keys_tell_apart_lem

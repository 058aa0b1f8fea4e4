use Rattle.net_state_enc_laws.proofs.FormedLatches.{latches-formed}
use Rattle.net_state_enc_laws.proofs.laws.latches_are_formed.Goals as goal

pub returns : goal.returns
returns c = latches-formed c.next_state_is_kept.ensures

use Rattle.net_state_enc_laws.proofs.FormedLatches.{kept-formed}
use Rattle.net_state_enc_laws.proofs.laws.kept_states_are_formed.Goals as goal

pub returns : goal.returns
returns c = kept-formed

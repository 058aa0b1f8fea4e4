use Rattle.net_state_enc_laws.proofs.FormedLatches.{graph-keeps}
use Rattle.net_state_enc_laws.proofs.laws.graphs_keep_states.Goals as goal

pub returns : goal.returns
returns c = graph-keeps c.next_state_is_kept.ensures

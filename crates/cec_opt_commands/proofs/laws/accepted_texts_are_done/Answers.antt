use Rattle.cec_opt_commands.proofs.Accepting.{accepted_done}
use Rattle.cec_opt_commands.proofs.laws.accepted_texts_are_done.Goals as goal

pub returns : goal.returns
returns c = accepted_done

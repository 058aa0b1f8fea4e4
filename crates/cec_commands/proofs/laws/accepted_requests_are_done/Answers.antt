use Rattle.cec_commands.proofs.Accepting.{accepted_done}
use Rattle.cec_commands.proofs.laws.accepted_requests_are_done.Goals as goal

pub returns : goal.returns
returns c = accepted_done

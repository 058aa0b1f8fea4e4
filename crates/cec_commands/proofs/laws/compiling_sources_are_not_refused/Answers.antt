use Rattle.cec_commands.proofs.Unrefused.{unrefused}
use Rattle.cec_commands.proofs.laws.compiling_sources_are_not_refused.Goals as goal

pub returns : goal.returns
returns c = unrefused

use Rattle.cec_commands.proofs.Stopping.{stopping_told}
use Rattle.cec_commands.proofs.laws.stopping_runs_are_told.Goals as goal

pub returns : goal.returns
returns c = stopping_told

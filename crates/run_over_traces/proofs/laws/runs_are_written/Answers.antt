use Rattle.run_over_traces.proofs.Fronts.{nets-are-written}
use Rattle.run_over_traces.proofs.laws.runs_are_written.Goals as goal

pub returns : goal.returns
returns c = nets-are-written

use Rattle.run_over_traces.proofs.Events.{traces-begin, events-fit}
use Rattle.run_over_traces.proofs.laws.events_fit.Goals as goal

pub returns : goal.returns
returns c = record { whole = traces-begin; each = events-fit }

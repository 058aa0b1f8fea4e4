-- Inner: to no items a runner shows nothing.
-- (It is in specs/, short as it is, because a contract can cite definitions of specs/ alone.)
use Rattle.std.specs.Prelude.{[]}
use Rattle.run_over_traces.specs.Ends.{nothing_shown}
use Rattle.blif_text.specs.Runs.{circuit_machine}
use Rattle.blif_run.specs.CircuitAnswers.{circuit_answer}
use Rattle.blif_run.specs.Runners.{Runner}
use Rattle.blif_run.specs.Showing.{runner_shows}

pub shows_nothing : (r : Runner) → runner_shows r [] []
shows_nothing r = nothing_shown (circuit_machine r.circuit) (circuit_answer r.circuit) r.latches

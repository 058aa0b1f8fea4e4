-- Inner: to no items a runner shows nothing.
-- (It is in specs/, short as it is, because a contract can cite definitions of specs/ alone.)
use Rattle.std.specs.Prelude.{[]}
use Rattle.run_over_traces.specs.Ends.{nothing_shown}
use Rattle.vlog_text.specs.Machine.{vlog_machine}
use Rattle.vlog_run.specs.ModuleAnswers.{module_answer}
use Rattle.vlog_run.specs.Runners.{Runner, module_in}
use Rattle.vlog_run.specs.Showing.{runner_shows}

pub shows_nothing : (r : Runner) → runner_shows r [] []
shows_nothing r = nothing_shown (vlog_machine (module_in r)) (module_answer (module_in r)) r.registers

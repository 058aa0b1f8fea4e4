-- Inner: to no items a machine shows nothing.
-- (It is in specs/, short as it is, because a contract can cite definitions of specs/ alone.)
use Rattle.std.specs.Prelude.{[]}
use Rattle.csub_text.specs.Machine.{program_machine}
use Rattle.csub_run.specs.ProgramAnswers.{call_answer}
use Rattle.csub_run.specs.Runners.{Runner, program_in, memory_of}
use Rattle.csub_run.specs.Showing.{runner_shows}
use Rattle.run_over_traces.specs.Ends.{nothing_shown}

pub shows_nothing : (r : Runner) → runner_shows r [] []
shows_nothing r = nothing_shown (program_machine (program_in r)) (call_answer (program_in r)) (memory_of r)

-- Inner: to no items a machine shows nothing, and its number stays.
use Rattle.std.specs.Prelude.{[], refl}
use Rattle.csub_guard.specs.Machine.{guarded_machine}
use Rattle.csub_guard_run.specs.ProgramAnswers.{call_answer}
use Rattle.csub_guard_run.specs.Runners.{memory_of}
use Rattle.csub_guard_run.specs.Showing.{Counter, counted_program, counter_shows, adds_up}
use Rattle.run_over_traces.specs.Ends.{nothing_shown}

pub shows_nothing : (m : Counter) → counter_shows m [] []
shows_nothing m =
    nothing_shown (guarded_machine (counted_program m)) (call_answer (counted_program m)) (memory_of m.calls)

pub adds_nothing : (m : Counter) → adds_up m [] m
adds_nothing m = refl

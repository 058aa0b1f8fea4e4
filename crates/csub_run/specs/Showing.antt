-- Contract: what a machine shows from its present state on: what its program's machine does from this memory on.
use Rattle.std.specs.Prelude.{List}
use Rattle.base_types.specs.Items.{Item}
use Rattle.base_machines.specs.Machines.{Shows}
use Rattle.csub_text.specs.Machine.{program_machine}
use Rattle.csub_run.specs.ProgramAnswers.{call_answer}
use Rattle.csub_run.specs.Runners.{Runner, program_in, memory_of}
use Rattle.run_over_traces.specs.Machines.{ShownAnswer}

abbrev pub runner_shows : Runner → List Item → List ShownAnswer → Type 0
runner_shows r items answers =
    Shows (program_machine (program_in r)) (call_answer (program_in r)) (memory_of r) items answers

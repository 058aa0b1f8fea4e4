-- Contract: what a runner shows from its present state on: what its module's machine shows from its registers' values
-- on.
use Rattle.std.specs.Prelude.{List}
use Rattle.base_types.specs.Items.{Item}
use Rattle.base_machines.specs.Machines.{Shows}
use Rattle.run_over_traces.specs.Machines.{ShownAnswer}
use Rattle.vlog_text.specs.Machine.{vlog_machine}
use Rattle.vlog_run.specs.ModuleAnswers.{module_answer}
use Rattle.vlog_run.specs.Runners.{Runner, module_in}

abbrev pub runner_shows : Runner → List Item → List ShownAnswer → Type 0
runner_shows r items answers =
    Shows (vlog_machine (module_in r)) (module_answer (module_in r)) r.registers items answers

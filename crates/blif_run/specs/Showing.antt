-- Contract: what a runner shows from its present state on: what its circuit's machine shows from its latch values on.
-- (It is in specs/, short as it is, because a contract can cite definitions of specs/ alone.)
use Rattle.std.specs.Prelude.{List}
use Rattle.base_types.specs.Items.{Item}
use Rattle.base_machines.specs.Machines.{Shows}
use Rattle.blif_text.specs.Runs.{circuit_machine}
use Rattle.blif_run.specs.CircuitAnswers.{circuit_answer}
use Rattle.blif_run.specs.Runners.{Runner}
use Rattle.run_over_traces.specs.Machines.{ShownAnswer}

abbrev pub runner_shows : Runner → List Item → List ShownAnswer → Type 0
runner_shows r items answers = Shows (circuit_machine r.circuit) (circuit_answer r.circuit) r.latches items answers

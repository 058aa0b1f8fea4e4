-- Inner: the plan of a circuit's reactions.
use Rattle.std.specs.Prelude.{ℕ, List, ◌++◌, map}
use Rattle.blif_text.specs.Circuits.{Circuit}
use Rattle.blif_text.specs.Runs.{driven_names}
use Rattle.run_steps.specs.Plans.{Planned}
use Rattle.run_steps.specs.Solvers.{IsPlanOf}
use Rattle.run_steps.specs.Steps.{driven}
use Rattle.blif_run.specs.Loops.{equations_of}

-- the names that have a value before the tables: the inputs and the latches
abbrev pub given_names : Circuit → List (List ℕ)
given_names circuit = circuit.inputs ++ map (λ l. l.target) circuit.latches

-- all names that have a value: those of `driven_names`, in the same order
abbrev pub all_names : Circuit → List (List ℕ)
all_names circuit = driven (given_names circuit) (equations_of circuit)

-- The plan makes the steps of the tables in an evaluation order, and there are the slots of the latches' sources and of
-- the outputs.
abbrev pub IsPlan : Circuit → Planned → List ℕ → List ℕ → Type 0
IsPlan circuit =
    IsPlanOf (given_names circuit) (equations_of circuit) (driven_names circuit) (map (λ l. l.source) circuit.latches)
    circuit.outputs

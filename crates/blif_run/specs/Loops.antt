-- To believe: combinational cycles of a circuit, and what is asked of a circuit that is run.
use Rattle.std.specs.Prelude.{◌≡◌, ℕ, List, map, Ok}
use Rattle.blif_read.specs.declared.fault.BlifFault.{BlifFault}
use Rattle.blif_read.specs.declared.fault.BlifFault.TheVariants.{Loop}
use Rattle.blif_text.specs.Circuits.{Circuit, Table, reading}
use Rattle.blif_text.specs.Runs.{table_value}
use Rattle.run_steps.specs.Equations as equations
use Rattle.run_steps.specs.Equations.{NameEquation}

-- a circuit that some text describes
abbrev pub IsDescribed : Circuit → Type 0
IsDescribed circuit = (text : List ℕ) × (reading text ≡ Ok circuit)

-- a table gives its output a value from those of its inputs
abbrev pub equation_of : Table → NameEquation
equation_of table = record { output = table.output; reads = table.inputs; value = table_value table }

abbrev pub equations_of : Circuit → List NameEquation
equations_of circuit = map equation_of circuit.tables

-- A combinational cycle: each next name is an input of the table that drives the one before, and the first is an
-- input of the table that drives the last.
abbrev pub IsLoop : Circuit → List (List ℕ) → Type 0
IsLoop circuit names = equations.IsEquationLoop (equations_of circuit) names

abbrev pub HasNoLoop : Circuit → Type 0
HasNoLoop circuit = equations.HasNoEquationLoop (equations_of circuit)

-- the fault is a combinational cycle of the circuit
abbrev pub LoopFault : Circuit → BlifFault → Type 0
LoopFault circuit (Loop names) = IsLoop circuit names.items
LoopFault circuit others = ⊥

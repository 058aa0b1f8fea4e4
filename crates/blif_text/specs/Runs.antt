-- To believe: the meaning of a circuit, its runs over items. A valuation says of every name whether it is
-- true, and a run is a list of valuations, one for each event. An instant is a clock cycle of the Berkeley format; a
-- reset, which that format does not have, begins a new run.
use Rattle.std.specs.Prelude.{◌≡◌, ℕ, Bool, true, false, not, ◌&&◌, List, [], ◌∷◌, ◌++◌, map}
use Rattle.std.specs.List.{list_any, AllByRecursion}
use Rattle.base_types.specs.Items.{Item}
use Rattle.base_machines.specs.Machines as machines
use Rattle.base_machines.specs.Machines.{Machine}
use Rattle.blif_text.specs.Statements.{Cell, Zero, One, Any}
use Rattle.blif_text.specs.Circuits.{Circuit, Table}

abbrev pub cell_fits : Cell → Bool → Bool
cell_fits Zero value = not value
cell_fits One value = value
cell_fits Any value = true

-- whether each cell fits the value in its place
abbrev pub row_fits : List Cell → List Bool → Bool
row_fits [] [] = true
row_fits (cell ∷ cells) (value ∷ values) = cell_fits cell value && row_fits cells values
row_fits [] (value ∷ values) = false
row_fits (cell ∷ cells) [] = false

-- what a table gives: true where some row fits its inputs. So a table without inputs is the constant
-- true with its row, and false without.
abbrev pub table_value : Table → (List ℕ → Bool) → Bool
table_value table v = list_any (λ row. row_fits row (map v table.inputs)) table.rows

-- An instant with these latch values and these inputs: every table's equation holds.
pub record IsInstant (circuit : Circuit) (latches inputs : List Bool) (v : List ℕ → Bool) : Type 0 where
  pub inputs_given : map v circuit.inputs ≡ inputs
  pub latches_kept : map (λ l. v l.target) circuit.latches ≡ latches
  pub tables_met : AllByRecursion (λ t. v t.output ≡ table_value t v) circuit.tables

-- the values of the latches before the first event, and after a reset
abbrev pub circuit_latches : Circuit → List Bool
circuit_latches circuit = map (λ l. l.init) circuit.latches

-- The machine of a circuit: its states are the values of the latches, in an instant a valuation meets every table's
-- equation, and after it each latch has the value that its source had.
abbrev pub circuit_machine : Circuit → Machine (List ℕ → Bool)
circuit_machine circuit = record {
  State = List Bool;
  start = circuit_latches circuit;
  instant = IsInstant circuit;
  next = λ latches inputs v. map (λ l. v l.source) circuit.latches;
}

-- a run from these latch values on; a reset has no valuation and puts the latches back
abbrev pub IsCircuitRunFrom : Circuit → List Bool → List Item → List (List ℕ → Bool) → Type 0
IsCircuitRunFrom circuit latches items valuations =
    machines.IsRunFrom (circuit_machine circuit) latches items valuations

-- a run over items, where each latch has its initial value at the first event
abbrev pub IsCircuitRun : Circuit → List Item → List (List ℕ → Bool) → Type 0
IsCircuitRun circuit items valuations = IsCircuitRunFrom circuit (circuit_latches circuit) items valuations

-- the names that a circuit drives
abbrev pub driven_names : Circuit → List (List ℕ)
driven_names circuit = circuit.inputs ++ (map (λ l. l.target) circuit.latches ++ map (λ t. t.output) circuit.tables)

-- Inner: the truth tables of tables, and the steps that look them up.
use Rattle.std.specs.Prelude.{ℕ, ◌+◌, ◌^◌, Bool, List, [], length, map, slice_index_or}
use Rattle.std.specs.List.{list_any, range_with_len}
use Rattle.blif_text.specs.declared.circuit.Cell.{Cell}
use Rattle.blif_text.specs.Circuits.{Table}
use Rattle.blif_text.specs.Runs.{row_fits}
use Rattle.run_steps.specs.Plans.{digits, table_step}
use Rattle.run_steps.specs.Steps.{Step}

-- the truth table of rows of this width: its element k is the value for the inputs that are k's digits
abbrev pub truth_at : ℕ → List (List Cell) → ℕ → Bool
truth_at width rows k = list_any (λ row. row_fits row (digits width k)) rows

abbrev pub truth_of : ℕ → List (List Cell) → List Bool
truth_of width rows = map (truth_at width rows) (range_with_len 0 (2 ^ width))

abbrev pub no_table : Table
no_table = record { inputs = []; output = []; rows = [] }

-- the step of a table whose output and inputs have these slots
abbrev pub step_of : Table → ℕ → List ℕ → Step
step_of table output reads = table_step output reads (truth_of (length table.inputs) table.rows)

-- the step of the table with this number, where the slots of the tables' outputs begin at `first`
abbrev pub step_at : List Table → ℕ → List (List ℕ) → ℕ → Step
step_at tables first reads k = step_of (slice_index_or tables k no_table) (first + k) (slice_index_or reads k [])

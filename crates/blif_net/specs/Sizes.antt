-- To believe: how many gates the netlist of a circuit has, and how many nets it needs at most.
use Rattle.std.specs.Prelude.{ℕ, zero, suc, ◌+◌, ◌*◌, ◌==◌, if◌then◌else◌, List, length}
use Rattle.std.specs.List.{sum_by}
use Rattle.blif_text.specs.declared.circuit.Cell.{Cell}
use Rattle.blif_text.specs.declared.circuit.Cell.TheVariants.{Any, One, Zero}
use Rattle.blif_text.specs.Circuits.{Circuit}

-- Two gates for each cell of a row, and two more for the row itself.
abbrev pub row_nets : List Cell → ℕ
row_nets cells = 2 * length cells + 2

-- Those of the rows, and one more.
abbrev pub table_nets : List (List Cell) → ℕ
table_nets rows = sum_by row_nets rows + 1

-- One for each input and each latch, one that is never true, and those of the tables.
abbrev pub nets_at_most : Circuit → ℕ
nets_at_most c = length c.inputs + length c.latches + 1 + sum_by (λ t. table_nets t.rows) c.tables

-- What a cell is joined from: nothing where it fits any value; its input; or its input and a negation, which is a gate.
abbrev pub cell_parts : Cell → ℕ
cell_parts Any = 0
cell_parts One = 1
cell_parts Zero = 2

-- gates that join this many parts: one fewer than there are, and a constant where there is none
abbrev pub joining : ℕ → ℕ
joining zero = 1
joining (suc n) = n

-- the conjunction of a row's cells
abbrev pub row_gates : List Cell → ℕ
row_gates cells = joining (sum_by cell_parts cells)

-- a row of another width than its table fits nothing, and has no gate; a text of the profile has none
abbrev pub if_wide : ℕ → List Cell → ℕ → ℕ
if_wide width cells count = if length cells == width then count else 0

-- the disjunction of a table's rows
abbrev pub table_gates : ℕ → List (List Cell) → ℕ
table_gates width rows =
    sum_by (λ cells. if_wide width cells (row_gates cells)) rows
    + joining (sum_by (λ cells. if_wide width cells 1) rows)

-- One that is never true, and those of the tables.
abbrev pub gates_of : Circuit → ℕ
gates_of c = 1 + sum_by (λ t. table_gates (length t.inputs) t.rows) c.tables

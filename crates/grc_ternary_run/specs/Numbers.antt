-- Inner: how the nodes and sources of a graph's system are numbered. The first sources are false, true and whether this
-- is the first instant; then there is one for each given signal and one for each statement.
use Rattle.std.specs.Prelude.{ℕ, ◌+◌, ◌-◌, min, nat_lt, if◌then◌else◌, length}
use Rattle.grc_graph.specs.declared.graph.Graph.{Graph}
use Rattle.grc_ternary_gates.specs.Tables.{Shape}
use Rattle.grc_ternary_run.specs.declared.numbers.Counts.{Counts}

-- the source for a signal; what is not given is false
abbrev pub input_number : Counts → ℕ → ℕ
input_number c s = if nat_lt s c.given then 3 + s else 0

-- the source for a statement
abbrev pub selected_number : Counts → ℕ → ℕ
selected_number c n = 3 + c.given + min n (c.statements - 1)

-- how many wires and sources there are
abbrev pub shape : Graph → Counts → Shape
shape g c = record { wires = length g.wires.items; sources = 3 + c.given + c.statements }

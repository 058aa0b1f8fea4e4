-- To believe: how many gates are one after another in a netlist, and in that of a circuit.
use Rattle.std.specs.Prelude.{◌≡◌, ℕ, ◌+◌, ◌==◌, max, if◌then◌else◌, List, [], ◌∷◌, ◌++◌, length, map, replicate}
use Rattle.std.specs.Prelude.{slice_index_or, Option, Some, None}
use Rattle.std.specs.List.{AllByRecursion}
use Rattle.net_ir.specs.Netlists.{Netlist, first_gate}
use Rattle.net_ir.specs.declared.netlist.Gate.{Gate}
use Rattle.net_ir.specs.declared.netlist.Op.{Op}
use Rattle.net_ir.specs.declared.netlist.Op.TheVariants.{Const, Copy, Not, And, Or}
use Rattle.blif_text.specs.declared.circuit.Cell.{Cell}
use Rattle.blif_text.specs.declared.circuit.Cell.TheVariants.{Any, One, Zero}
use Rattle.blif_text.specs.Circuits.{Circuit}

-- ---- of a netlist

-- up to what an operator gives, by the depths of the nets that it reads: constants and copies are no gates here
abbrev pub op_depth : (ℕ → ℕ) → Op → ℕ
op_depth depths (Const b) = 0
op_depth depths (Copy n) = depths n.0
op_depth depths (Not n) = depths n.0 + 1
op_depth depths (And m n) = max (depths m.0) (depths n.0) + 1
op_depth depths (Or m n) = max (depths m.0) (depths n.0) + 1

-- up to each net, where the depths of those before the first gate are given
abbrev pub gate_depths : List ℕ → List Gate → List ℕ
gate_depths depths [] = depths
gate_depths depths (g ∷ gates) = gate_depths (depths ++ op_depth (λ n. slice_index_or depths n 0) g.op ∷ []) gates

-- none up to an input or a latch
abbrev pub net_depths : Netlist → List ℕ
net_depths net = gate_depths (replicate (first_gate net) 0) net.gates

-- the greatest of some numbers, 0 where there is none
abbrev pub greatest : List ℕ → ℕ
greatest [] = 0
greatest (n ∷ numbers) = max n (greatest numbers)

abbrev pub depth_of : Netlist → ℕ
depth_of net = greatest (net_depths net)

-- ---- of a circuit: its tables become gates, as Sizes counts them

-- What is joined so far, and one more part: the first part needs no gate, each other one is joined by one.
abbrev pub joined_depth : Option ℕ → ℕ → Option ℕ
joined_depth None part = Some part
joined_depth (Some sofar) part = Some (max sofar part + 1)

-- What is joined so far and a cell, by the depth of its input: nothing where the cell fits any value; the input; or the
-- input after a negation.
abbrev pub cell_depth : Option ℕ → Cell → ℕ → Option ℕ
cell_depth sofar Any input = sofar
cell_depth sofar One input = joined_depth sofar input
cell_depth sofar Zero input = joined_depth sofar (input + 1)

-- the conjunction of cells, one after another
abbrev pub cells_depth : Option ℕ → List Cell → List ℕ → Option ℕ
cells_depth sofar (cell ∷ cells) (input ∷ inputs) = cells_depth (cell_depth sofar cell input) cells inputs
cells_depth sofar cells inputs = sofar

-- where nothing is joined there is a constant
abbrev pub or_constant : Option ℕ → ℕ
or_constant None = 0
or_constant (Some depth) = depth

abbrev pub row_depth : List Cell → List ℕ → ℕ
row_depth cells inputs = or_constant (cells_depth None cells inputs)

-- what is joined so far and a row; a row of another width than its table fits nothing
abbrev pub row_joined : List ℕ → Option ℕ → List Cell → Option ℕ
row_joined inputs sofar cells =
    if length cells == length inputs then joined_depth sofar (row_depth cells inputs) else sofar

-- the disjunction of rows, one after another
abbrev pub rows_depth : List ℕ → Option ℕ → List (List Cell) → Option ℕ
rows_depth inputs sofar [] = sofar
rows_depth inputs sofar (cells ∷ rows) = rows_depth inputs (row_joined inputs sofar cells) rows

abbrev pub table_depth : List (List Cell) → List ℕ → ℕ
table_depth rows inputs = or_constant (rows_depth inputs None rows)

-- The depths of a circuit's names: none of an input or a latch, and of each table's output that of the table. A circuit
-- without a combinational cycle has just one depth for each of its names.
pub record AreDepths (c : Circuit) (depth : List ℕ → ℕ) : Type 0 where
  pub inputs : AllByRecursion (λ x. depth x ≡ 0) c.inputs
  pub latches : AllByRecursion (λ l. depth l.target ≡ 0) c.latches
  pub tables : AllByRecursion (λ t. depth t.output ≡ table_depth t.rows (map depth t.inputs)) c.tables

-- the depth of a circuit is the greatest of its tables' outputs
pub record HasDepth (c : Circuit) (most : ℕ) : Type 0 where
  pub depth : List ℕ → ℕ
  pub are : AreDepths c depth
  pub is : most ≡ greatest (map (λ t. depth t.output) c.tables)

-- Inner: what nets, operators, formulas, wires, rows and sources say: their values as functions of the instant. That a
-- net says what a formula means is one equation between two such functions.
use Rattle.std.specs.Prelude.{◌≡◌, ℕ, ◌+◌, ◌-◌, ◌<◌, ◌≤◌, ◌^◌, Bool, true, false, ◌||◌, Option, Some, None, List, []}
use Rattle.std.specs.Prelude.{◌∷◌, ◌++◌, length, slice_index_or}
use Rattle.std.specs.List.{list_any}
use Rattle.base_types.specs.declared.indices.NetId.{NetId}
use Rattle.base_types.specs.declared.indices.WireId.{WireId}
use Rattle.est_kernel.specs.Plain.{program_of, given_count}
use Rattle.grc_graph.specs.declared.formulas.Formula.{Formula}
use Rattle.grc_graph.specs.declared.graph.Graph.{Graph}
use Rattle.grc_graph.specs.declared.wires.Wire.{Wire}
use Rattle.grc_graph.specs.declared.wires.Wire.TheVariants as wires
use Rattle.grc_graph.specs.GraphRuns.{SolvesGraph, formula_value}
use Rattle.grc_graph.specs.PlainGraphs.{formula_of, instances_of, names_of, plain_graph, wire_at}
use Rattle.grc_formulas.specs.declared.table.Source.{Source}
use Rattle.grc_formulas.specs.declared.table.Words.{Words}
use Rattle.grc_formulas.specs.Occasions.{Occasion, state_in, surroundings}
use Rattle.grc_formulas.specs.Rows.{source_value, row_values}
use Rattle.grc_formulas.specs.WordLaws.{any_from, first_end}
use Rattle.net_ir.specs.declared.netlist.Gate.{Gate}
use Rattle.net_ir.specs.declared.netlist.Op.{Op}
use Rattle.net_ir.specs.Gates.{ReadsLower, operand_end, op_value, value_in, gate_values}
use Rattle.net_gen.specs.Drawings.{Drawing, next_number}

-- an occasion on which the wires solve the graph's equations
pub record Instant (g : Graph) : Type 0 where
  pub occasion : Occasion g
  pub solves : SolvesGraph (plain_graph g) (state_in g occasion) occasion.event occasion.valuation

abbrev pub Sense : Graph → Type 0
Sense g = Instant g → Bool

-- the values of inputs and latches
abbrev pub start_of : (g : Graph) → Occasion g → List Bool
start_of g t = t.event ++ (t.boot ∷ t.bits)

-- the number of the first gate: the inputs, the boot latch and the leaves stand before it
abbrev pub first_of : Graph → ℕ
first_of g = given_count (program_of g.program) + (1 + length g.next.items)

-- the value of the wire with a number
abbrev pub wire_value : (g : Graph) → Occasion g → ℕ → Bool
wire_value g t v = t.valuation (wire_at (names_of g) v)

unfoldable pub net_sense : (g : Graph) → List Gate → ℕ → Sense g
net_sense g gates n = λ t. value_in (gate_values (start_of g t.occasion) gates) n

unfoldable pub op_sense : (g : Graph) → List Gate → Op → Sense g
op_sense g gates op = λ t. op_value (value_in (gate_values (start_of g t.occasion) gates)) op

unfoldable pub form_sense : (g : Graph) → Formula → Sense g
form_sense g f = λ t. formula_value (plain_graph g) (state_in g t.occasion) t.occasion.event t.occasion.valuation
    (formula_of (instances_of g) (names_of g) f)

unfoldable pub wire_sense : (g : Graph) → ℕ → Sense g
wire_sense g v = λ t. wire_value g t.occasion v

-- one of these wires is true
unfoldable pub any_sense : (g : Graph) → List WireId → Sense g
any_sense g list = λ t. list_any (λ v. wire_value g t.occasion v.0) list

-- one wire of a run is true, from this number on
unfoldable pub run_sense : (g : Graph) (first count : ℕ) → Sense g
run_sense g first count = λ t. any_from (wire_value g t.occasion) first count

unfoldable pub source_sense : (g : Graph) → Words → Source → Sense g
source_sense g w s = λ t. source_value (surroundings g t.occasion)
    (row_values (surroundings g t.occasion) [] w.rows.items) s

unfoldable pub row_sense : (g : Graph) → Words → ℕ → Sense g
row_sense g w r = λ t. slice_index_or (row_values (surroundings g t.occasion) [] w.rows.items) r false

-- the instance that a wire is an end of
abbrev pub end_instance : Wire → ℕ
end_instance (wires.Go i) = i.0
end_instance (wires.End i k) = i.0
end_instance (wires.Local i) = i.0
end_instance (wires.Out s) = 0

-- one of the ends of the instance of the wire with this number is true, from the first one to that wire
abbrev pub first_beside : Graph → Words → ℕ → ℕ
first_beside g w v = first_end w (end_instance (slice_index_or g.wires.items v (wires.Out (record { 0 = 0 }))))

abbrev pub ends_sense : (g : Graph) → Words → ℕ → Sense g
ends_sense g w v = run_sense g (first_beside g w v) (v + 1 - first_beside g w v)

-- a net that there is says this
pub record Stands (g : Graph) (d : Drawing) (n : ℕ) (m : Sense g) : Type 0 where
  pub below : n < next_number d
  pub says : net_sense g d.gates n ≡ m

-- an operator over nets that there are says this
pub record OpStands (g : Graph) (d : Drawing) (op : Op) (m : Sense g) : Type 0 where
  pub below : operand_end op ≤ next_number d
  pub says : op_sense g d.gates op ≡ m

-- the nets of a table say this, each at its place
abbrev pub Table : (g : Graph) → Drawing → List (Option NetId) → (ℕ → Sense g) → Type 0
Table g d entries senses = (k : ℕ) (n : NetId) → slice_index_or entries k None ≡ Some n → Stands g d n.0 (senses k)

-- What a circuit keeps while it grows.
pub record Sound (g : Graph) (w : Words) (d : Drawing) : Type 0 where
  pub given : d.given ≡ given_count (program_of g.program)
  pub first : d.first ≡ first_of g
  pub numbered : next_number d ≤ 2 ^ 32
  pub reads : ReadsLower d.first d.gates
  pub no : Stands g d d.no.0 (λ t. false)
  pub yes : Stands g d d.yes.0 (λ t. true)
  pub wires : Table g d d.wires (wire_sense g)
  pub ends : Table g d d.ends (ends_sense g w)
  pub rows : Table g d d.rows (row_sense g w)
  pub carrying : (k : ℕ) (x : Gate) (v : WireId) → k < length d.gates → (slice_index_or d.gates k x).wire ≡ Some v
      → net_sense g d.gates (d.first + k) ≡ wire_sense g v.0
  pub wires_all : length d.wires ≡ length g.wires.items
  pub ends_all : length d.ends ≡ length g.wires.items
  pub rows_all : length d.rows ≡ length w.rows.items

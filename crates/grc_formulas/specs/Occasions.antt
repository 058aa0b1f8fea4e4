-- Contract: an instant of a graph as an evaluation meets it: what is kept from the instant before, the event, and a
-- value for each wire.
use Rattle.std.specs.Prelude.{◌≡◌, ℕ, Bool, false, if◌then◌else◌, List, length, All, IsTrue}
use Rattle.std.specs.List.{list_any}
use Rattle.est_kernel.specs.Plain.{program_of, given_count}
use Rattle.grc_graph.specs.declared.graph.Graph.{Graph}
use Rattle.grc_graph.specs.PlainGraphs.{names_of, plain_graph, wire_at}
use Rattle.grc_graph.specs.Readings.{Valuation}
use Rattle.grc_graph.specs.SelectionTrees.{selecting}
use Rattle.grc_graph.specs.Walk.{State, Initial, Selecting}
use Rattle.grc_graph.specs.Wires.{Wire, same_wire}
use Rattle.grc_formulas.specs.Rows.{Surroundings}

-- the state that one truth value for the first instant and one for each leaf stand for
abbrev pub state_of : List ℕ → Bool → List Bool → State
state_of leaves boot bits = if boot then Initial else Selecting (selecting leaves bits)

-- No leaf is selected in the first instant.
pub record Occasion (g : Graph) : Type 0 where
  pub boot : Bool
  pub bits : List Bool
  pub event : List Bool
  pub valuation : Valuation
  pub one_per_leaf : length bits ≡ length g.next.items
  pub one_per_given : length event ≡ given_count (program_of g.program)
  pub unselected : IsTrue boot → All (λ b. b ≡ false) bits

-- what is no wire of the graph is false
abbrev pub FalseOffWires : Graph → Valuation → Type 0
FalseOffWires g V = (w : Wire) → list_any (same_wire w) (names_of g) ≡ false → V w ≡ false

-- the state of an occasion
abbrev pub state_in : (g : Graph) → Occasion g → State
state_in g t = state_of (plain_graph g).leaves t.boot t.bits

-- what sources read in an occasion
abbrev pub surroundings : (g : Graph) → Occasion g → Surroundings
surroundings g t = record { leaves = t.bits; event = t.event; wires = λ v. t.valuation (wire_at (names_of g) v) }

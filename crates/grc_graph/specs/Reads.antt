-- To believe: which wires a formula reads, and orders along which the equations of a graph read. Such an order is one
-- in which the wires can be evaluated one after another.
use Rattle.std.specs.Prelude.{◌≡◌, ℕ, ◌<◌, ◌≤◌, List, length, slice_index_or, All, ⊤}
use Rattle.base_types.specs.declared.indices.WireId.{WireId}
use Rattle.grc_graph.specs.Wires.{Wire, End}
use Rattle.grc_graph.specs.Formulas.{Formula, Const, Boot, Input, Value, Selected, Upto, Kept, Held, Negation}
use Rattle.grc_graph.specs.Formulas.{Conjunction, Disjunction}
use Rattle.grc_graph.specs.PlainGraphs as graphs
use Rattle.grc_graph.specs.WireOrders.{wire_at, times}

-- Each wire that a formula reads meets P. Upto reads the ends of its instance. Kept and Held read the wires of all
-- statements around their instance; they are words of the next state, and no equation has them.
abbrev pub ReadsOnly : (Wire → Type 0) → Formula → Type 0
ReadsOnly P (Const b) = ⊤
ReadsOnly P Boot = ⊤
ReadsOnly P (Input s) = ⊤
ReadsOnly P (Value w) = P w
ReadsOnly P (Selected n) = ⊤
ReadsOnly P (Upto n l k) = (j : ℕ) → j ≤ k → P (End n l j)
ReadsOnly P (Kept n l) = ⊥
ReadsOnly P (Held n l) = ⊥
ReadsOnly P (Negation a) = ReadsOnly P a
ReadsOnly P (Conjunction a b) = ReadsOnly P a × ReadsOnly P b
ReadsOnly P (Disjunction a b) = ReadsOnly P a × ReadsOnly P b

-- a wire is in a list before a place
abbrev pub StandsBefore : List WireId → (w place : ℕ) → Type 0
StandsBefore order w place = (i : ℕ) × (i < place) × (wire_at order i ≡ w)

-- A list of all wires of a graph by number, each once, in which each wire that an equation reads stands before the
-- equation's own wire. What is no wire of the graph is not read; it counts as false.
pub record IsReadingOrder (names : List Wire) (formulas : List Formula) (order : List WireId) : Type 0 where
  pub each_place : length order ≡ length names
  pub in_range : All (λ w. w.0 < length names) order
  pub each_once : (w : ℕ) → w < length names → times order w ≡ 1
  pub along : (j : ℕ) (d : Formula) → j < length order
      → ReadsOnly (λ u. (v : ℕ) → v < length names → graphs.wire_at names v ≡ u → StandsBefore order v j)
      (slice_index_or formulas (wire_at order j) d)

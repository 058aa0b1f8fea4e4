-- Contract: which wires the graph of a program has, which wires its edges join, and what its equations read.
use Rattle.std.specs.Prelude.{◌≡◌, ◌≢◌, ◌⊎◌, ℕ, ◌≤◌, List, map, All, AllPairs, Contains}
use Rattle.est_kernel.specs.Plain.{Program}
use Rattle.grc_graph.specs.Wires.{Wire, End}
use Rattle.grc_graph.specs.Formulas.{Formula, Const, Boot, Input, Value, Selected, Upto, Kept, Held, Negation}
use Rattle.grc_graph.specs.Formulas.{Conjunction, Disjunction}
use Rattle.grc_graph.specs.Equations.{Equation}
use Rattle.grc_graph.specs.Edges.{edge}
use Rattle.grc_graph.specs.Selected.{HasExitCodes}
use Rattle.grc_graph.specs.Reads.{ReadsOnly}
pub use Rattle.grc_graph.specs.GraphRuns.{program_wires, program_edges}
use Rattle.grc_graph.specs.GraphRuns.{graph_of}

-- the wires of equations, in order
abbrev pub equation_wires : List Equation → List Wire
equation_wires es = map (λ e. e.wire) es

-- no wire stands twice
abbrev pub Differ : List Wire → Type 0
Differ ws = AllPairs (λ u w. u ≢ w) ws

-- The graph of a program has one equation for each of its wires, in their order, and no wire stands twice.
abbrev pub WiresDiffer : Type 0
WiresDiffer =
    (p : Program) → HasExitCodes p.body
    → (equation_wires (graph_of p).equations ≡ program_wires p) × Differ (program_wires p)

-- Each edge joins two wires of the graph.
abbrev pub EdgesJoinWires : Type 0
EdgesJoinWires =
    (p : Program) → HasExitCodes p.body
    → All (λ e. Contains (program_wires p) e.from × Contains (program_wires p) e.to) (program_edges p)

-- Each wire of the graph that an equation reads has an edge to the equation's wire.
abbrev pub ReadsAreEdges : Type 0
ReadsAreEdges =
    (p : Program) → HasExitCodes p.body
    → All (λ e. ReadsOnly (λ u. Contains (program_wires p) u → Contains (program_edges p) (edge u e.wire)) e.formula)
    (graph_of p).equations

-- a formula reads this wire, in its own name or as an end of an instance up to a code
abbrev pub IsRead : Wire → Formula → Type 0
IsRead u (Const b) = ⊥
IsRead u Boot = ⊥
IsRead u (Input s) = ⊥
IsRead u (Value w) = u ≡ w
IsRead u (Selected n) = ⊥
IsRead u (Upto n l k) = (j : ℕ) × (j ≤ k) × (u ≡ End n l j)
IsRead u (Kept n l) = ⊥
IsRead u (Held n l) = ⊥
IsRead u (Negation a) = IsRead u a
IsRead u (Conjunction a b) = IsRead u a ⊎ IsRead u b
IsRead u (Disjunction a b) = IsRead u a ⊎ IsRead u b

-- among these equations that of w reads u
pub record ReadsWire (equations : List Equation) (u w : Wire) : Type 0 where
  pub formula : Formula
  pub equation : Contains equations (record { wire = w; formula = formula })
  pub reads : IsRead u formula

-- Each edge ends at a wire whose equation reads the wire that it begins at: no edge is one too many.
abbrev pub EdgesAreReads : Type 0
EdgesAreReads =
    (p : Program) → HasExitCodes p.body
    → All (λ e. ReadsWire (graph_of p).equations e.from e.to) (program_edges p)

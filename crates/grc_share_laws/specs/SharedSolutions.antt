-- Contract: the laws of shared graphs: their equations read along the edges between shared wires, and have one
-- solution.
use Rattle.std.specs.Prelude.{◌≡◌, ℕ, ◌<◌, List, [], ◌∷◌, length, map, slice_index, All, Contains}
use Rattle.base_types.specs.declared.indices.WireId.{WireId}
use Rattle.est_kernel.specs.Plain.{Program, program_of}
use Rattle.est_kernel.specs.WellFormed.{IsKernel, KeepsLimits}
use Rattle.grc_graph.specs.declared.graph.Graph.{Graph}
use Rattle.grc_graph.specs.BuiltGraphs.{IsGraphOf}
use Rattle.grc_graph.specs.Edges.{edge}
use Rattle.grc_graph.specs.Orders.{GoUp}
use Rattle.grc_graph.specs.PlainGraphs.{formula_of, instances_of, names_of, wire_at}
use Rattle.grc_graph.specs.Reads.{IsReadingOrder, ReadsOnly}
use Rattle.grc_graph.specs.WireOrders.{IsWireOrder}
use Rattle.grc_graph.specs.Wires.{Wire}
use Rattle.grc_share.specs.SharedGraphs.{shared_equations, shared_graph}
use Rattle.grc_share.specs.declared.shared_graph.SharedGraph.{SharedGraph}
use Rattle.grc_share.specs.SharedGraphForms.{IsSharedGraphOf}
use Rattle.grc_share.specs.SharedWires.{shared_edges, shared_wires}
use Rattle.grc_solutions.specs.GraphWires.{Differ}
use Rattle.grc_solutions.specs.Solutions.{HasOneSolution, ReadUp}

-- a walk along edges between shared wires, over these wires in between
abbrev pub IsWalk : Program → Wire → List Wire → Wire → Type 0
IsWalk p u [] w = Contains (shared_edges p) (edge u w)
IsWalk p u (v ∷ vs) w = Contains (shared_edges p) (edge u v) × IsWalk p v vs w

-- such a walk leads from one shared wire to another
abbrev pub LeadsTo : Program → Wire → Wire → Type 0
LeadsTo p u w = (between : List Wire) × IsWalk p u between w

-- From each shared wire that an equation of the shared graph reads a walk leads to the equation's own wire. What is no
-- wire of the graph is not read; it counts as false.
abbrev pub SharedReadsHaveWalks : Type 0
SharedReadsHaveWalks =
    (g : Graph) → IsGraphOf g (program_of g.program)
    → All (λ e. ReadsOnly (λ u. Contains (shared_wires (program_of g.program)) u → LeadsTo
    (program_of g.program) u e.wire)
    e.formula) (shared_equations (program_of g.program))

-- So where each edge between the shared wires of a program goes up in some rank, their equations read up in the rank.
abbrev pub SharedGraphsReadUp : Type 0
SharedGraphsReadUp =
    (g : Graph) (rank : Wire → ℕ) → IsGraphOf g (program_of g.program)
    → GoUp rank (shared_edges (program_of g.program)) → ReadUp rank (shared_equations (program_of g.program))

-- So they have one solution.
abbrev pub SharedGraphsHaveOneSolution : Type 0
SharedGraphsHaveOneSolution =
    (g : Graph) (rank : Wire → ℕ) → IsGraphOf g (program_of g.program)
    → GoUp rank (shared_edges (program_of g.program)) → HasOneSolution (shared_graph (program_of g.program))

-- The ranks that a shared graph is answered with, by the numbers of its wires, are such ranks.
abbrev pub SharedRanksGoUp : Type 0
SharedRanksGoUp =
    (p : Program) (s : SharedGraph) → IsKernel p.body → KeepsLimits p.body → IsSharedGraphOf p s
    → (rank : Wire → ℕ)
    × GoUp rank (shared_edges p)
    × ((k : ℕ) → k < length (shared_wires p) → rank (wire_at (shared_wires p) k) ≡ slice_index s.ranks.of.items k)

-- An evaluation order along the edges that it is answered with is one along which its equations read.
abbrev pub SharedOrdersAreReadingOrders : Type 0
SharedOrdersAreReadingOrders =
    (g : Graph) (s : SharedGraph) (order : List WireId) → IsGraphOf g (program_of g.program)
    → IsSharedGraphOf (program_of g.program) s → IsWireOrder s.edges.count s.edges.pairs.items order
    → IsReadingOrder (names_of s.graph)
    (map (formula_of (instances_of s.graph) (names_of s.graph)) s.graph.equations.items) order

-- No shared wire stands twice.
abbrev pub SharedWiresDiffer : Type 0
SharedWiresDiffer = (p : Program) → IsKernel p.body → KeepsLimits p.body → Differ (shared_wires p)

-- Contract: the graph of a program by the numbers of its wires: evaluation orders, ranks, and walks that close.
use Rattle.std.specs.Prelude.{◌≡◌, ℕ, ◌<◌, List, length, map, slice_index}
use Rattle.base_digraph.specs.Walks.{IsClosedWalk}
use Rattle.base_types.specs.declared.indices.WireId.{WireId}
use Rattle.est_kernel.specs.Plain.{Program}
use Rattle.grc_graph.specs.Wires.{Wire}
use Rattle.grc_graph.specs.Formulas.{Formula}
use Rattle.grc_graph.specs.Equations.{Equation}
use Rattle.grc_graph.specs.Edges.{Edge}
use Rattle.grc_graph.specs.Orders.{GoUp}
use Rattle.grc_graph.specs.Selected.{HasExitCodes}
use Rattle.grc_graph.specs.WireOrders.{WireEdge, AreRanks, IsWireOrder}
use Rattle.grc_graph.specs.PlainGraphs as graphs
use Rattle.grc_graph.specs.NumberedEdges.{AreEdgesOf}
use Rattle.grc_graph.specs.Reads.{IsReadingOrder}
use Rattle.grc_graph.specs.GraphRuns.{graph_of}
use Rattle.grc_solutions.specs.GraphWires.{program_wires, program_edges, equation_wires, Differ}
use Rattle.grc_solutions.specs.Solutions.{ReadUp}

-- the formulas of equations, in order
abbrev pub formulas_of : List Equation → List Formula
formulas_of es = map (λ e. e.formula) es

-- edges by the numbers of their wires, as pairs of plain numbers
abbrev pub plain_pairs : List WireEdge → List (ℕ × ℕ)
plain_pairs pairs = map (λ e. (e.0.0, e.1.0)) pairs

-- An evaluation order along the edges of a program's graph is one along which its equations read.
abbrev pub WireOrdersAreReadingOrders : Type 0
WireOrdersAreReadingOrders =
    (p : Program) (pairs : List WireEdge) (order : List WireId) → HasExitCodes p.body
    → AreEdgesOf (program_wires p) (program_edges p) pairs → IsWireOrder (length (program_wires p)) pairs order
    → IsReadingOrder (program_wires p) (formulas_of (graph_of p).equations) order

-- Ranks by number that grow along the edges of a program's graph are ranks of its wires in which each edge goes up.
abbrev pub WireRanksGoUp : Type 0
WireRanksGoUp =
    (p : Program) (pairs : List WireEdge) (ranks : List ℕ) → HasExitCodes p.body
    → AreEdgesOf (program_wires p) (program_edges p) pairs → AreRanks (length (program_wires p)) pairs ranks
    → (rank : Wire → ℕ)
    × GoUp rank (program_edges p)
    × ((w : ℕ) → w < length (program_wires p) → rank (graphs.wire_at (program_wires p) w) ≡ slice_index ranks w)

-- Where some walk along the edges closes, they go up in no rank.
abbrev pub ClosedWalksHaveNoRanks : Type 0
ClosedWalksHaveNoRanks =
    (names : List Wire) (edges : List Edge) (pairs : List WireEdge) (walk : List ℕ) (rank : Wire → ℕ)
    → AreEdgesOf names edges pairs → IsClosedWalk (plain_pairs pairs) walk → GoUp rank edges → ⊥

-- Equations that read along an order, no two of one wire, read up in some rank: so they have one solution.
abbrev pub ReadingOrdersReadUp : Type 0
ReadingOrdersReadUp =
    (es : List Equation) (order : List WireId) → Differ (equation_wires es)
    → IsReadingOrder (equation_wires es) (formulas_of es) order
    → (rank : Wire → ℕ) × ReadUp rank es

-- To believe: the dependency edges of a graph by the numbers of its wires.
use Rattle.std.specs.Prelude.{ℕ, ◌<◌, List, length, Contains}
use Rattle.grc_graph.specs.Wires.{Wire}
use Rattle.grc_graph.specs.Edges.{Edge, edge}
use Rattle.grc_graph.specs.PlainGraphs.{wire_at}
use Rattle.grc_graph.specs.WireOrders.{WireEdge, AreEdges}

-- the edge that a pair of numbers stands for
abbrev pub named_edge : List Wire → (from to : ℕ) → Edge
named_edge names from to = edge (wire_at names from) (wire_at names to)

-- These pairs of numbers are the edges between these wires: each pair stands for an edge, and each edge between two of
-- the wires has its pair. The pairs ascend, so none stands twice.
pub record AreEdgesOf (names : List Wire) (edges : List Edge) (pairs : List WireEdge) : Type 0 where
  pub ascending : AreEdges (length names) pairs
  pub sound : (from to : ℕ) → Contains pairs (record { 0 = from }, record { 0 = to }) →
      Contains edges (named_edge names from to)
  pub whole : (from to : ℕ) → from < length names → to < length names
      → Contains edges (named_edge names from to) → Contains pairs (record { 0 = from }, record { 0 = to })

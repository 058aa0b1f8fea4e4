-- Contract: the graph of a program's shared wires by number, and when a program has one.
use Rattle.std.specs.Prelude.{◌≡◌, Bool, true, false, length, map}
use Rattle.est_kernel.specs.Plain.{Program, program_of}
use Rattle.grc_graph.specs.declared.graph.Graph.{Graph}
use Rattle.grc_graph.specs.NumberedEdges.{AreEdgesOf}
use Rattle.grc_graph.specs.PlainGraphs.{instances_of, names_of, node_form, plain_graph}
use Rattle.grc_graph.specs.WireOrders.{AreRanks}
use Rattle.grc_share.specs.declared.shared_graph.SharedGraph.{SharedGraph}
use Rattle.grc_share.specs.declared.graphs.SharedOrFull.{SharedOrFull}
use Rattle.grc_share.specs.declared.graphs.SharedOrFull.TheVariants.{Shared, Full}
use Rattle.grc_share.specs.SharedGraphs.{shared_graph, shared_instances, shared_nodes}
use Rattle.grc_share.specs.SharedNumbers.{IsSharedWalk}
use Rattle.grc_share.specs.SharedWires.{shared_edges, shared_wires}

-- The graph is that of the shared wires of a program: its instances and wires are the shared ones, in order, and so are
-- its nodes, equations and formulas of the next state. The edges are those between shared wires, which go up in the
-- ranks.
pub record IsSharedGraphOf (p : Program) (s : SharedGraph) : Type 0 where
  pub program : program_of s.graph.program ≡ p
  pub instances : instances_of s.graph ≡ shared_instances p
  pub wires : names_of s.graph ≡ shared_wires p
  pub nodes : map (node_form (instances_of s.graph) (names_of s.graph)) s.graph.nodes.items ≡ shared_nodes p
  pub graph : plain_graph s.graph ≡ shared_graph p
  pub count : s.edges.count ≡ length s.graph.wires.items
  pub edges : AreEdgesOf (shared_wires p) (shared_edges p) s.edges.pairs.items
  pub ranks : AreRanks s.edges.count s.edges.pairs.items s.ranks.of.items

-- the shared graph of a graph, or the graph itself and a closed walk
abbrev pub IsSharedOrFull : Graph → SharedOrFull → Type 0
IsSharedOrFull g (Shared s) = IsSharedGraphOf (program_of g.program) s
IsSharedOrFull g (Full h walk) = (h ≡ g) × IsSharedWalk (program_of g.program) walk.items

abbrev pub is_full : SharedOrFull → Bool
is_full (Shared s) = false
is_full (Full g walk) = true

-- Contract: the graph that a program is compiled by, its own or that of its shared wires.
use Rattle.std.specs.Prelude.{◌≡◌, Bool, true, false, List, length, map}
use Rattle.base_types.specs.declared.indices.WireId.{WireId}
use Rattle.est_kernel.specs.Plain.{Program, program_of}
use Rattle.est_kernel.specs.StaticCodes.{NoInstantLoop}
use Rattle.est_kernel.specs.WellFormed.{IsWellFormed, HasNames}
use Rattle.grc_graph.specs.declared.graph.Graph.{Graph}
use Rattle.grc_graph.specs.BuiltGraphs.{IsGraphOf}
use Rattle.grc_graph.specs.NumberedEdges.{AreEdgesOf}
use Rattle.grc_graph.specs.PlainGraphs.{formula_of, instances_of, names_of, node_form, plain_graph}
use Rattle.grc_graph.specs.Reads.{IsReadingOrder}
use Rattle.grc_graph.specs.WireOrders.{AreRanks, IsWireOrder}
use Rattle.grc_share.specs.SharedGraphs.{shared_graph, shared_instances, shared_nodes}
use Rattle.grc_share.specs.SharedWires.{shared_wires}
use Rattle.cec_compile.specs.Refusals.{Compiles}
use Rattle.cec_compile.specs.WireGroups.{HasSharedRank, graph_edges, is_shared}
use Rattle.cec_compile.specs.declared.passes.Graphed.{Graphed}

-- The graph is that of a program's shared wires, and the edges between these go up in some rank: its instances and
-- wires are the shared ones, in order, and so are its nodes, equations and formulas of the next state.
pub record IsSharedOf (g : Graph) (p : Program) : Type 0 where
  pub program : program_of g.program ≡ p
  pub instances : instances_of g ≡ shared_instances p
  pub wires : names_of g ≡ shared_wires p
  pub nodes : map (node_form (instances_of g) (names_of g)) g.nodes.items ≡ shared_nodes p
  pub graph : plain_graph g ≡ shared_graph p
  pub ranked : HasSharedRank p

-- the program's own graph, or that of its shared wires
abbrev pub IsGraphIn : Bool → Graph → Program → Type 0
IsGraphIn false g p = IsGraphOf g p
IsGraphIn true g p = IsSharedOf g p

-- The program has a graph, and this is the graph, or the one of the shared wires.
pub record IsOwnOrShared (g : Graph) (p : Program) : Type 0 where
  pub given : Graph
  pub built : IsGraphOf given p
  pub graph : IsGraphIn (is_shared g) g p

-- Such a graph of a program that compiles, the edges between its wires, and ranks that grow along them. The equations
-- read along each order of the wires that follows the edges.
pub record IsRanked (g : Graphed) (p : Program) : Type 0 where
  pub formed : IsWellFormed p
  pub names : HasNames p
  pub no_loop : NoInstantLoop p.body
  pub compiles : Compiles p
  pub graph : IsOwnOrShared g.graph p
  pub count : g.edges.count ≡ length g.graph.wires.items
  pub edges : AreEdgesOf (names_of g.graph) (graph_edges (is_shared g.graph) p) g.edges.pairs.items
  pub ranks : AreRanks g.edges.count g.edges.pairs.items g.ranks.of.items
  pub orders : (order : List WireId) → IsWireOrder g.edges.count g.edges.pairs.items order
      → IsReadingOrder (names_of g.graph)
      (map (formula_of (instances_of g.graph) (names_of g.graph)) g.graph.equations.items) order

-- Inner: what a shared graph is made of.
use Rattle.std.specs.Prelude.{◌≡◌, Bool, true, false, List, length, map, All, IsTrue}
use Rattle.est_kernel.specs.Plain.{Program, program_of}
use Rattle.est_kernel.specs.Preorder.{statement_count}
use Rattle.grc_graph.specs.declared.graph.Graph.{Graph}
use Rattle.grc_graph.specs.declared.instances.Instance.{Instance}
use Rattle.grc_graph.specs.GraphShapes.{formula_fits, node_fits, wire_fits}
use Rattle.grc_graph.specs.LoopTables.{AreLoopCounts}
use Rattle.grc_graph.specs.NumberedEdges.{AreEdgesOf}
use Rattle.grc_graph.specs.PlainGraphs.{formula_of, instances_of, names_of, node_form, plain_graph, wire_of}
use Rattle.grc_graph.specs.PlainInstances.{instance_of}
use Rattle.grc_graph.specs.WireOrders.{AreRanks}
use Rattle.grc_graph.specs.WireTables.{AreFirsts}
use Rattle.grc_share.specs.declared.graphs.Formulas.{Formulas}
use Rattle.grc_share.specs.declared.graphs.GraphParts.{GraphParts}
use Rattle.grc_share.specs.declared.graphs.Named.{Named}
use Rattle.grc_share.specs.declared.graphs.Parts as parts
use Rattle.grc_share.specs.declared.graphs.PartsOrWalk.{PartsOrWalk}
use Rattle.grc_share.specs.declared.graphs.PartsOrWalk.TheVariants.{Parts, Walk}
use Rattle.grc_share.specs.declared.sharing.SharedWires.{SharedWires}
use Rattle.grc_share.specs.declared.tables.Tables.{Tables}
use Rattle.grc_share.specs.LeastMembers.{AreLeast}
use Rattle.grc_share.specs.Renamings.{AreSharedFormulas}
use Rattle.grc_share.specs.SharedGraphs.{shared_graph, shared_instances, shared_nodes}
use Rattle.grc_share.specs.SharedInstances.{body_sharing}
use Rattle.grc_share.specs.SharedNumbers.{AreSharedWires, IsSharedWalk}
use Rattle.grc_share.specs.SharedWires.{shared_edges, shared_wires}
use Rattle.grc_share.specs.Tables.{AreFirstWires}

-- what is found of a graph before its shared graph is made
pub record AreFound (g : Graph) (s : SharedWires) : Type 0 where
  pub wires : AreSharedWires (program_of g.program) s.least.items s.numbers.items
  pub each_instance : length s.instances.items ≡ length g.instances.list.items
  pub least : AreLeast (body_sharing (program_of g.program).body) g.instances.list.items s.instances.items
  pub each_statement : length s.loops.items ≡ statement_count (program_of g.program).body
  pub counts : AreLoopCounts (program_of g.program).body s.loops.items

-- the shared wires and nodes of a program
pub record AreNamed (p : Program) (s : Named) : Type 0 where
  pub wires : map (wire_of (shared_instances p)) s.wires.items ≡ shared_wires p
  pub wires_fit : All (λ w. IsTrue (wire_fits (length (shared_instances p)) w)) s.wires.items
  pub nodes : map (node_form (shared_instances p) (shared_wires p)) s.nodes.items ≡ shared_nodes p
  pub nodes_fit : All (λ x. IsTrue (node_fits (length (shared_instances p)) (length (shared_wires p)) x)) s.nodes.items

-- the formulas of a program's shared wires and of the next state
pub record AreFormulas (p : Program) (s : Formulas) : Type 0 where
  pub equations : AreSharedFormulas p s.equations.items
  pub next : map (formula_of (shared_instances p) (shared_wires p)) s.next.items ≡ (shared_graph p).next
  pub next_fit : All (λ f. IsTrue (formula_fits (length (shared_instances p)) (length (shared_wires p)) f)) s.next.items

-- where the instances and wires of a graph's shared graph are found
pub record AreTables (g : Graph) (list : List Instance) (t : Tables) : Type 0 where
  pub wires : AreFirstWires g t.first_wires.items
  pub instances : AreFirsts list t.first_instances.items
  pub each : length t.loops.items ≡ statement_count (program_of g.program).body
  pub loops : AreLoopCounts (program_of g.program).body t.loops.items

-- the lists of a graph's shared graph
pub record AreGraphParts (g : Graph) (s : GraphParts) : Type 0 where
  pub instances : map instance_of s.instances.items ≡ shared_instances (program_of g.program)
  pub named : AreNamed (program_of g.program) s.named
  pub formulas : AreFormulas (program_of g.program) s.formulas
  pub tables : AreTables g s.instances.items s.tables

-- what a graph's shared graph is made of
pub record AreParts (g : Graph) (s : parts.Parts) : Type 0 where
  pub graph : AreGraphParts g s.graph
  pub count : s.edges.count ≡ length (shared_wires (program_of g.program))
  pub edges : AreEdgesOf (shared_wires (program_of g.program)) (shared_edges (program_of g.program))
      s.edges.pairs.items
  pub ranks : AreRanks s.edges.count s.edges.pairs.items s.ranks.of.items

-- they are these, or there is a closed walk
abbrev pub ArePartsOrWalk : Graph → PartsOrWalk → Type 0
ArePartsOrWalk g (Parts s) = AreParts g s
ArePartsOrWalk g (Walk walk) = IsSharedWalk (program_of g.program) walk.items

abbrev pub is_walk : PartsOrWalk → Bool
is_walk (Parts s) = false
is_walk (Walk walk) = true

-- a graph is that of the shared wires of a program
pub record IsGraphOfShared (p : Program) (g : Graph) : Type 0 where
  pub instances : instances_of g ≡ shared_instances p
  pub wires : names_of g ≡ shared_wires p
  pub nodes : map (node_form (instances_of g) (names_of g)) g.nodes.items ≡ shared_nodes p
  pub graph : plain_graph g ≡ shared_graph p

-- To believe: what the passes make of a source: each field says what its pass keeps.
use Rattle.std.specs.Prelude.{◌≡◌, ◌*◌, ◌≤◌, ℕ, true, false, List, ◌∷◌, length, map, Option}
use Rattle.base_types.specs.declared.bounds.TheConstants.Limits.{INSTANCES}
use Rattle.est_kernel.specs.Plain.{Program, program_of}
use Rattle.est_kernel.specs.StaticCodes.{NoInstantLoop}
use Rattle.est_kernel.specs.WellFormed.{IsWellFormed, HasNames}
use Rattle.grc_graph.specs.BuiltGraphs.{IsGraphOf}
use Rattle.grc_graph.specs.GraphRuns.{program_edges}
use Rattle.grc_graph.specs.Instances.{body_instances}
use Rattle.grc_graph.specs.NumberedEdges.{AreEdgesOf}
use Rattle.grc_graph.specs.PlainGraphs.{formula_of, instances_of, names_of}
use Rattle.grc_graph.specs.Reads.{IsReadingOrder}
use Rattle.grc_graph.specs.SelectionTrees.{body_leaves, body_tree}
use Rattle.grc_graph.specs.TreeForms.{tree_node}
use Rattle.grc_graph.specs.WireOrders.{WireEdge, AreRanks, IsWireOrder}
use Rattle.grc_share.specs.SharedSizes.{shared_size}
use Rattle.net_gen.specs.Costs.{linear_bound}
use Rattle.net_ir.specs.Gates.{carried}
use Rattle.net_ir.specs.Runs.{netlist_of}
use Rattle.net_simp.specs.SimpleNets.{IsSimple}
use Rattle.blif_text.specs.Written as blif_texts
use Rattle.csub_text.specs.Written as c_texts
use Rattle.vlog_text.specs.Written as verilog_texts
use Rattle.est_front.specs.Sources.{StandsFor}
use Rattle.cec_compile.specs.Meaning.{TextKeeps, CTextKeeps, VerilogTextKeeps}
use Rattle.cec_compile.specs.WireNames.{one_per_leaf, TextNames, CTextNames, VerilogTextNames}
use Rattle.cec_compile.specs.NetMeaning.{NetKeeps}
use Rattle.cec_compile.specs.Refusals.{Compiles}
use Rattle.cec_compile.specs.WireGroups.{SharesWires, graph_edges, graph_wires, is_shared}
use Rattle.cec_compile.specs.declared.passes.Compiled.{Compiled}
use Rattle.cec_compile.specs.declared.passes.Graphed.{Graphed}

-- The graph is the program's, and so are the tree and the edges; no edge lies on a cycle.
pub record IsGraphed (g : Graphed) (p : Program) : Type 0 where
  pub formed : IsWellFormed p
  pub names : HasNames p
  pub no_loop : NoInstantLoop p.body
  pub few : length (body_instances p.body) ≤ INSTANCES
  pub graph : IsGraphOf g.graph p
  pub tree : map tree_node g.graph.tree.nodes.items ≡ body_tree p.body
  pub leaves : g.graph.tree.leaves ≡ length (body_leaves p.body)
  pub count : g.edges.count ≡ length g.graph.wires.items
  pub edges : AreEdgesOf (names_of g.graph) (program_edges p) g.edges.pairs.items
  pub ranks : AreRanks g.edges.count g.edges.pairs.items g.ranks.of.items

-- The order of a compiled program is one along the edges of its graph: no wire comes before one that has an edge to
-- it.
pub record FollowsEdges (c : Compiled) (p : Program) : Type 0 where
  pub pairs : List WireEdge
  pub edges : AreEdgesOf (names_of c.graph) (graph_edges (is_shared c.graph) p) pairs
  pub order : IsWireOrder (length c.graph.wires.items) pairs c.order.list.items

-- A graph of the program, its own or that of its shared wires, an evaluation order along its edges, and its netlist.
-- The wires and the live test nodes of the program's own graph bound the number of gates; where wires are shared, those
-- of the shared graph do too. There is one gate for each wire of the graph, in that order. The first latch marks the
-- first instant; the others, one for each leaf of the selection tree, are false at first. The netlist keeps what the
-- program means, and has nothing left to simplify.
pub record IsCompiled (c : Compiled) (p : Program) : Type 0 where
  pub formed : IsWellFormed p
  pub no_loop : NoInstantLoop p.body
  pub compiles : Compiles p
  pub program : program_of c.graph.program ≡ p
  pub wires : names_of c.graph ≡ graph_wires (is_shared c.graph) p
  pub own : is_shared c.graph ≡ false → IsGraphOf c.graph p
  pub tree : map tree_node c.graph.tree.nodes.items ≡ body_tree p.body
  pub leaves : c.graph.tree.leaves ≡ length (body_leaves p.body)
  pub order : IsReadingOrder (names_of c.graph)
      (map (formula_of (instances_of c.graph) (names_of c.graph)) c.graph.equations.items) c.order.list.items
  pub along : FollowsEdges c p
  pub carried : carried c.net.gates.items ≡ map (λ v. v.0) c.order.list.items
  pub linear : length c.net.gates.items ≤ linear_bound p
  pub shared_linear : is_shared c.graph ≡ true → length c.net.gates.items ≤ 15 * shared_size p
  pub latches : map (λ l. l.init) c.net.latches.items ≡ true ∷ map (λ n. false) (body_leaves p.body)
  pub keeps : NetKeeps (netlist_of c.net) p
  pub simple : IsSimple (netlist_of c.net)

-- The bytes stand for the program of the graph, of the netlist, or of the BLIF text, the C text or the Verilog text.

pub record StandsForGraph (text : List ℕ) (main : Option (List ℕ)) (g : Graphed) : Type 0 where
  pub program : Program
  pub source : StandsFor text main program
  pub graphed : IsGraphed g program

pub record StandsForNet (text : List ℕ) (main : Option (List ℕ)) (c : Compiled) : Type 0 where
  pub program : Program
  pub source : StandsFor text main program
  pub compiled : IsCompiled c program

pub record StandsForText (text : List ℕ) (main : Option (List ℕ)) (written : List ℕ) : Type 0 where
  pub program : Program
  pub source : StandsFor text main program
  pub compiles : Compiles program
  pub keeps : TextKeeps written program
  pub names : TextNames (one_per_leaf program) written program

pub record StandsForC (text : List ℕ) (main : Option (List ℕ)) (written : List ℕ) : Type 0 where
  pub program : Program
  pub source : StandsFor text main program
  pub compiles : Compiles program
  pub keeps : CTextKeeps written program
  pub names : CTextNames (one_per_leaf program) written program

pub record StandsForVerilog (text : List ℕ) (main : Option (List ℕ)) (written : List ℕ) : Type 0 where
  pub program : Program
  pub source : StandsFor text main program
  pub compiles : Compiles program
  pub keeps : VerilogTextKeeps written program
  pub names : VerilogTextNames (one_per_leaf program) written program

-- The text is that of a compiled program's netlist, from the same bytes, whose wires are shared where they can be: it
-- has a table for each gate, in the order of the gates, and a gate that carries a wire is named by it.
pub record IsBlifOf (bytes : List ℕ) (main : Option (List ℕ)) (written : List ℕ) : Type 0 where
  pub made : Compiled
  pub compiled : StandsForNet bytes main made
  pub shares : SharesWires compiled.program (is_shared made.graph)
  pub text : written ≡ blif_texts.written (netlist_of made.net)

pub record IsCOf (bytes : List ℕ) (main : Option (List ℕ)) (written : List ℕ) : Type 0 where
  pub made : Compiled
  pub compiled : StandsForNet bytes main made
  pub shares : SharesWires compiled.program (is_shared made.graph)
  pub text : written ≡ c_texts.written (netlist_of made.net)

pub record IsVerilogOf (bytes : List ℕ) (main : Option (List ℕ)) (written : List ℕ) : Type 0 where
  pub made : Compiled
  pub compiled : StandsForNet bytes main made
  pub shares : SharesWires compiled.program (is_shared made.graph)
  pub text : written ≡ verilog_texts.written (netlist_of made.net)

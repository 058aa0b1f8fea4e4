-- What the passes joined give.
use Rattle.std.proofs.Common.{◌≡◌, ℕ, ◌+◌, ◌-◌, ◌*◌, ◌<◌, ◌≤◌, List, [], ◌∷◌, length, map, get_or, Option, refl, sym, ap, ◌∙◌, subst, ⊎_elim, arith}
use Rattle.std.specs.Prelude.{Bool, true, false, All, Contains, Some, None, is_some, slice_index}
use Rattle.std.proofs.lemmas.Bool.{cases_lt}
use Rattle.std.proofs.lemmas.List.Elements.{All-contains, All-map}
use Rattle.std.proofs.lemmas.List.{length-map, length-take, get_or-map}
use Rattle.base_digraph.specs.Walks.{IsClosedWalk}
use Rattle.base_types.specs.declared.bounds.TheConstants.Limits.{INSTANCES}
use Rattle.base_types.specs.declared.indices.WireId.{WireId}
use Rattle.est_kernel.specs.Plain.{Program, program_of, given_count}
use Rattle.est_kernel.specs.StaticCodes.{NoInstantLoop}
use Rattle.est_kernel.specs.WellFormed as programs
use Rattle.est_kernel.proofs.Exports.{trees_are_kernels_lem}
use Rattle.blif_text.specs.Written.{Means}
use Rattle.csub_text.specs.Written as c_meant
use Rattle.vlog_text.specs.Written as verilog_meant
use Rattle.grc_layout.specs.Faults as copying
use Rattle.grc_layout.specs.declared.refusal.CopyFault.{CopyFault}
use Rattle.grc_layout.specs.declared.refusal.CopyFault.TheVariants as copy_faults
use Rattle.grc_graph.specs.declared.graph.Graph.{Graph}
use Rattle.grc_graph.specs.declared.orders.Edges.{Edges}
use Rattle.grc_graph.specs.declared.orders.Order.{Order}
use Rattle.grc_graph.specs.declared.orders.Ranks.{Ranks}
use Rattle.grc_graph.specs.BuiltGraphs.{IsGraphOf}
use Rattle.grc_graph.proofs.Exports.{tree_numbers}
use Rattle.grc_graph.specs.GraphRuns.{program_edges, program_wires}
use Rattle.grc_dep.specs.Cycles.{numbered, numbers_of}
use Rattle.grc_graph.specs.Edges.{Edge}
use Rattle.grc_graph.specs.NumberedEdges.{AreEdgesOf}
use Rattle.grc_graph.specs.Instances.{body_instances}
use Rattle.grc_graph.specs.PlainGraphs.{formula_of, instances_of, names_of, wire_of}
use Rattle.grc_graph.specs.Reads.{IsReadingOrder}
use Rattle.grc_graph.specs.SelectionTrees.{body_leaves, body_tree}
use Rattle.grc_graph.specs.TreeForms.{tree_node}
use Rattle.grc_graph.specs.Layers.{Resumed}
use Rattle.grc_graph.specs.Wires.{Wire, Go}
use Rattle.grc_graph.specs.WireOrders.{WireEdge, AreRanks, IsWireOrder}
use Rattle.grc_solutions_laws.proofs.Exports.{program_kernel}
use Rattle.grc_share.specs.declared.shared_graph.SharedGraph.{SharedGraph}
use Rattle.grc_share.specs.SharedGraphForms.{IsSharedGraphOf}
use Rattle.grc_share.specs.SharedNumbers.{IsSharedWalk}
use Rattle.grc_share.specs.SharedSizes.{shared_size}
use Rattle.grc_share.specs.SharedWires.{members, shared_edges, shared_wires}
use Rattle.grc_share.proofs.Exports.{graph_gates, shared-differ}
use Rattle.grc_solutions.specs.GraphWires.{Differ}
use Rattle.grc_solutions.proofs.Exports.{wires_differ_lem}
use Rattle.grc_share_laws.specs.SharedSolutions.{SharedOrdersAreReadingOrders, SharedRanksGoUp}
use Rattle.grc_formulas.specs.Sizes.{rows_at_most}
use Rattle.net_gen.specs.Costs.{gates_at_most, linear_bound}
use Rattle.net_gen.specs.Generated.{HasInterfaceOf, FollowsInstants, FollowsRuns}
use Rattle.net_gen.proofs.Exports.{wires_cost}
use Rattle.net_ir.specs.declared.netlist.Net.{Net}
use Rattle.net_ir.specs.Gates.{carried}
use Rattle.net_ir.specs.Runs.{netlist_of}
use Rattle.net_simp.specs.SameRuns.{SameParts, SameInstants, SameRuns}
use Rattle.net_simp.specs.SimpleNets.{IsSimple}
use Rattle.est_front.specs.Sources.{StandsFor}
use Rattle.cec_compile.specs.declared.passes.Compiled.{Compiled}
use Rattle.cec_compile.specs.declared.passes.Graphed.{Graphed}
use Rattle.cec_compile.specs.Compiling.{IsGraphed, IsCompiled, StandsForGraph, StandsForNet, StandsForText, StandsForC, StandsForVerilog}
use Rattle.cec_compile.specs.Following.{FollowsGraph}
use Rattle.cec_compile.specs.Limits.{copying_refusal}
use Rattle.cec_compile.specs.Graphs.{HasNoGraph, IsBuilt}
use Rattle.cec_compile.specs.GraphsMade.{IsGraphIn, IsOwnOrShared, IsRanked, IsSharedOf}
use Rattle.cec_compile.specs.Refusals.{Compiles}
use Rattle.cec_compile.specs.WireGroups.{HasSharedRank, SharesWires, graph_edges, graph_wires, is_shared, wire_groups}
use Rattle.cec_compile.proofs.GraphFacts.{acyclic, reading_order, shared_cycle}
use Rattle.cec_compile.proofs.GraphsRead.{ReadsIn, graph_reads, next_count, shared_loops}
use Rattle.cec_compile.proofs.Simplified.{interface_stays, instants_stay, runs_stay}
use Rattle.cec_compile.proofs.WireWords.{order_carried, holds_wires, names_wires, module_wires, latches_stored, states_stored, registers_stored}
use Rattle.cec_compile.specs.WireNames.{one_per_leaf, TextNames, CTextNames, VerilogTextNames}
use Rattle.cec_compile.proofs.Keeping.{net_keeps, text_keeps, c_text_keeps, verilog_text_keeps}

-- ---- graphs

pub kernel_of : (g : Graph) (p : Program) → program_of g.program ≡ p → programs.IsKernel p.body
kernel_of g p program = subst (λ q. programs.IsKernel q.body) program (trees_are_kernels_lem g.program.body)

-- the selection tree of a graph is its program's, with so many leaves
graph_tree : (g : Graph) (p : Program) → program_of g.program ≡ p → map tree_node g.tree.nodes.items ≡ body_tree p.body
graph_tree g p program = g.laid_out.tree ∙ ap (λ (q : Program). body_tree q.body) program

graph_leaves : (g : Graph) (p : Program) → program_of g.program ≡ p → g.tree.leaves ≡ length (body_leaves p.body)
graph_leaves g p program =
    g.tree.numbered.counted ∙ sym (tree_numbers g.tree.nodes.items (length (body_leaves p.body)) p.body (graph_tree g p program) refl).counted

-- a graph is that of the program that it has
pub own_graph : (g : Graphed) (p : Program) → IsGraphed g p → IsGraphed g (program_of g.graph.program)
own_graph g p h = subst (IsGraphed g) (sym h.graph.program) h

-- a graph has the selection tree of its program, with a leaf for each of the program's
pub built_is : (g : Graph) (p : Program) → programs.IsWellFormed p → programs.HasNames p → NoInstantLoop p.body
    → length (body_instances p.body) ≤ INSTANCES → IsGraphOf g p → IsBuilt g p
built_is g p formed names no_loop few is = record {
  formed = formed;
  names = names;
  no_loop = no_loop;
  few = few;
  graph = is;
  tree = graph_tree g p is.program;
  leaves = graph_leaves g p is.program;
}

pub own_built : (g : Graph) (p : Program) → IsBuilt g p → IsBuilt g (program_of g.program)
own_built g p h = subst (IsBuilt g) (sym h.graph.program) h

-- a graph that is built, with its edges and ranks along them
pub graphed_is : (g : Graph) (edges : Edges) (ranks : Ranks) (p : Program) → IsBuilt g p → edges.count ≡ length g.wires.items
    → AreEdgesOf (names_of g) (program_edges (program_of g.program)) edges.pairs.items
    → AreRanks edges.count edges.pairs.items ranks.of.items
    → IsGraphed (record { graph = g; edges = edges; ranks = ranks }) p
graphed_is g edges ranks p h count along up = record {
  formed = h.formed;
  names = h.names;
  no_loop = h.no_loop;
  few = h.few;
  graph = h.graph;
  tree = h.tree;
  leaves = h.leaves;
  count = count;
  edges = subst (λ q. AreEdgesOf (names_of g) (program_edges q) edges.pairs.items) h.graph.program along;
  ranks = up;
}

pub graph_compiles : (g : Graphed) (p : Program) → IsGraphed g p → Compiles p
graph_compiles g p h = record {
  limits = record { few_instances = h.few; few_wires = h.graph.few };
  acyclic = acyclic g.graph p g.edges.count g.edges.pairs.items g.ranks.of.items h.graph
      (program_kernel p h.formed (kernel_of g.graph p h.graph.program)) h.count h.edges h.ranks;
}

pub graph_order : (g : Graphed) (p : Program) (order : List WireId) → IsGraphed g p → IsWireOrder g.edges.count g.edges.pairs.items order
    → IsReadingOrder (names_of g.graph) (map (formula_of (instances_of g.graph) (names_of g.graph)) g.graph.equations.items) order
graph_order g p order h along =
    reading_order g.graph p g.edges.count g.edges.pairs.items order h.graph (program_kernel p h.formed (kernel_of g.graph p h.graph.program)) h.count h.edges
    along

-- the graph of a program as it is
pub own_ranked : (g : Graphed) (p : Program) → IsGraphed g p → IsRanked g p
own_ranked g p h =
    let own : is_shared g.graph ≡ false = ap is_some h.graph.own in
    record {
      formed = h.formed;
      names = h.names;
      no_loop = h.no_loop;
      compiles = graph_compiles g p h;
      graph = record { given = g.graph; built = h.graph; graph = subst (λ shared. IsGraphIn shared g.graph p) (sym own) h.graph };
      count = h.count;
      edges = subst (λ shared. AreEdgesOf (names_of g.graph) (graph_edges shared p) g.edges.pairs.items) (sym own) h.edges;
      ranks = h.ranks;
      orders = λ order along. graph_order g p order h along;
    }

pub own_shares : (g : Graphed) (p : Program) (walk : List ℕ) → IsGraphed g p → IsSharedWalk p walk → SharesWires p (is_shared g.graph)
own_shares g p walk h closed = subst (SharesWires p) (sym (ap is_some h.graph.own)) (shared_cycle p walk closed)

-- the graph of the shared wires of a program that has a graph
pub shared_rank : (p : Program) (s : SharedGraph) → SharedRanksGoUp → programs.IsKernel p.body → programs.KeepsLimits p.body → IsSharedGraphOf p s
    → HasSharedRank p
shared_rank p s go_up kernel limits is =
    let found = go_up p s kernel limits is in
    record { rank = found.0; up = found.1 }

pub shared_ranked : (given : Graphed) (s : SharedGraph) → IsGraphed given (program_of given.graph.program) → HasSharedRank (program_of given.graph.program)
    → SharedOrdersAreReadingOrders → IsSharedGraphOf (program_of given.graph.program) s
    → IsRanked (record { graph = s.graph; edges = s.edges; ranks = s.ranks }) (program_of given.graph.program)
shared_ranked given s h ranked reading is =
    let p = program_of given.graph.program in
    let shared : is_shared s.graph ≡ true = shared_loops s.graph p is.program is.graph in
    record {
      formed = h.formed;
      names = h.names;
      no_loop = h.no_loop;
      compiles = graph_compiles given p h;
      graph = record {
        given = given.graph;
        built = h.graph;
        graph = subst (λ b. IsGraphIn b s.graph p) (sym shared) (record {
          program = is.program;
          instances = is.instances;
          wires = is.wires;
          nodes = is.nodes;
          graph = is.graph;
          ranked = ranked;
        });
      };
      count = is.count;
      edges = subst (λ b. AreEdgesOf (names_of s.graph) (graph_edges b p) s.edges.pairs.items) (sym shared)
          (subst (λ names. AreEdgesOf names (shared_edges p) s.edges.pairs.items) (sym is.wires) is.edges);
      ranks = is.ranks;
      orders = λ order along. reading given.graph s order h.graph is along;
    }

pub shared_shares : (p : Program) (s : SharedGraph) → IsSharedGraphOf p s → HasSharedRank p → SharesWires p (is_shared s.graph)
shared_shares p s is ranked = subst (SharesWires p) (sym (shared_loops s.graph p is.program is.graph)) ranked

-- a graph that is the program's, or that of its shared wires, has the program and names its wires
pub its_program : (g : Graph) (p : Program) → IsOwnOrShared g p → program_of g.program ≡ p
its_program g p is = by (is_shared g) is.graph
  where
    by : (shared : Bool) → IsGraphIn shared g p → program_of g.program ≡ p
    by false own = own.program
    by true shared = shared.program

its_wires : (g : Graph) (p : Program) → IsOwnOrShared g p → names_of g ≡ graph_wires (is_shared g) p
its_wires g p is = by (is_shared g) is.graph
  where
    by : (shared : Bool) → IsGraphIn shared g p → names_of g ≡ graph_wires shared p
    by false own = own.wires
    by true shared = shared.wires

pub copy_refused : (p : Program) (fault : CopyFault) → copying.FaultHasCause p.body fault → HasNoGraph p (copying_refusal fault)
copy_refused p copy_faults.TooManyInstances h = h
copy_refused p copy_faults.NoMemory h = tt

-- ---- nets and texts

pub given-few : (p : Program) → programs.IsWellFormed p → given_count p ≤ length p.signals
given-few p h = omega (arith, h.interface)

-- a latch for the first instant, and one for each leaf
latches_stand : (g : Graph) (p : Program) (net : Net) → program_of g.program ≡ p → HasInterfaceOf g (netlist_of net)
    → map (λ l. l.init) net.latches.items ≡ true ∷ map (λ n. false) (body_leaves p.body)
latches_stand g p net is interface = interface.latches ∙ ap (λ bits. true ∷ bits) (same_bits g.next.items (body_leaves p.body) (next_count g p is))
  where
    same_bits : {A B : Type 0} (xs : List A) (ys : List B) → length xs ≡ length ys → map (λ x. false) xs ≡ map (λ y. false) ys
    same_bits [] [] e = refl
    same_bits [] (y ∷ ys) e = absurd (omega (arith, e))
    same_bits (x ∷ xs) [] e = absurd (omega (arith, e))
    same_bits (x ∷ xs) (y ∷ ys) e = ap (λ bits. false ∷ bits) (same_bits xs ys (omega (arith, e)))

-- it follows the graph as the one does that it is made from
pub simplified_follows : (g : Graph) (order : Order) (net new : Net) → IsOwnOrShared g (program_of g.program)
    → HasInterfaceOf g (netlist_of net) → length net.gates.items ≤ gates_at_most g (rows_at_most g) order.list.items
    → FollowsInstants g (netlist_of net) → FollowsRuns g (netlist_of net)
    → SameParts (netlist_of net) (netlist_of new) → SameInstants (netlist_of net) (netlist_of new) → SameRuns (netlist_of net) (netlist_of new)
    → FollowsGraph (record { graph = g; order = order; net = new })
simplified_follows g order net new graph interface size instants runs parts same alike =
    let few = given-few (program_of g.program) g.laid_out.formed in
    record {
      graph = graph;
      size = omega (arith, parts.fewer, size);
      interface = interface_stays g (netlist_of net) (netlist_of new) parts interface;
      instants = instants_stay g (netlist_of net) (netlist_of new) few interface parts same instants;
      runs = runs_stay g (netlist_of net) (netlist_of new) few interface parts.carries alike runs;
    }

-- how the wires of a compiled graph are read off the program's
pub compiled_reads : (c : Compiled) (p : Program) → IsCompiled c p → FollowsGraph c → ReadsIn (is_shared c.graph) c.graph p
compiled_reads c p h f =
    graph_reads c.graph p h.formed (kernel_of c.graph p h.program) h.no_loop h.compiles.acyclic (subst (IsOwnOrShared c.graph) h.program f.graph)

-- the gates of a graph of shared wires, by its own size
shared_gates : (g : Graph) (p : Program) (order : List WireId) (gates : ℕ) → IsSharedOf g p → is_shared g ≡ true
    → IsReadingOrder (names_of g) (map (formula_of (instances_of g) (names_of g)) g.equations.items) order
    → gates ≤ gates_at_most g (rows_at_most g) order → gates ≤ 15 * shared_size p
shared_gates g p order gates is shared reads few =
    omega (
      arith,
      few,
      wires_cost g (map (formula_of (instances_of g) (names_of g)) g.equations.items) order reads,
      graph_gates g p is.program is.instances is.wires is.graph shared,
    )

-- a graph with an order along its edges, and a netlist that follows it
pub compiled_is : (g : Graphed) (order : Order) (net : Net) → IsRanked g (program_of g.graph.program)
    → IsWireOrder g.edges.count g.edges.pairs.items order.list.items
    → carried net.gates.items ≡ map (λ v. v.0) order.list.items
    → length net.gates.items ≤ linear_bound (program_of g.graph.program)
    → FollowsGraph (record { graph = g.graph; order = order; net = net })
    → IsSimple (netlist_of net) → IsCompiled (record { graph = g.graph; order = order; net = net }) (program_of g.graph.program)
compiled_is g order net h along carries linear follows simple =
    let p = program_of g.graph.program in
    let kernel = kernel_of g.graph p refl in
    record {
      formed = h.formed;
      no_loop = h.no_loop;
      compiles = h.compiles;
      program = refl;
      wires = its_wires g.graph p h.graph;
      own = λ own. subst (λ shared. IsGraphIn shared g.graph p) own h.graph.graph;
      tree = graph_tree g.graph p refl;
      leaves = graph_leaves g.graph p refl;
      order = h.orders order.list.items along;
      along = record { pairs = g.edges.pairs.items; edges = h.edges; order = subst (λ n. IsWireOrder n g.edges.pairs.items order.list.items) h.count along };
      carried = carries;
      linear = linear;
      shared_linear = λ shared. shared_gates g.graph p order.list.items (length net.gates.items) (subst (λ b. IsGraphIn b g.graph p) shared h.graph.graph)
          shared (h.orders order.list.items along) follows.size;
      latches = latches_stand g.graph p net refl follows.interface;
      keeps = net_keeps g.graph p (netlist_of net) h.formed kernel (graph_reads g.graph p h.formed kernel h.no_loop h.compiles.acyclic h.graph)
          h.compiles.acyclic follows.interface follows.runs;
      simple = simple;
    }

pub own_source : (text : List ℕ) (main : Option (List ℕ)) (g : Graphed) → (s : StandsForGraph text main g) → StandsFor text main (program_of g.graph.program)
own_source text main g s = subst (StandsFor text main) (sym s.graphed.graph.program) s.source

pub compiled_stands : (text : List ℕ) (main : Option (List ℕ)) (given : Graphed) (c : Compiled) → StandsForGraph text main given
    → program_of c.graph.program ≡ program_of given.graph.program → IsCompiled c (program_of c.graph.program) → StandsForNet text main c
compiled_stands text main given c s same h = record {
  program = program_of c.graph.program;
  source = subst (StandsFor text main) (sym same) (own_source text main given s);
  compiled = h;
}

-- a group for each wire
group_count : (shared : Bool) (p : Program) → length (wire_groups shared p) ≡ length (graph_wires shared p)
group_count false p = length-map (program_wires p) (λ w. w ∷ [])
group_count true p = length-map (shared_wires p) (members p)

-- each wire of a compiled program is carried
pub wires_carried : (c : Compiled) (p : Program) → IsCompiled c p → (n : ℕ) → n < length (wire_groups (is_shared c.graph) p)
    → Contains (carried c.net.gates.items) n
wires_carried c p h n l =
    let few : n < length (graph_wires (is_shared c.graph) p) = omega (arith, l, group_count (is_shared c.graph) p) in
    order_carried c.order.list.items c.net.gates.items n h.carried (h.order.each_once n (subst (λ ws. n < length ws) (sym h.wires) few))

pub inputs_wide : (c : Compiled) (p : Program) → IsCompiled c p → given_count p ≡ length (netlist_of c.net).inputs
inputs_wide c p h = sym (ap length h.keeps.inputs ∙ omega (arith, length-take (given_count p) p.signals, given-few p h.formed))

-- no two of its wires are one
names_differ : (shared : Bool) (p : Program) → programs.IsKernel p.body → programs.IsWellFormed p → Differ (graph_wires shared p)
names_differ false p kernel formed = (wires_differ_lem p (program_kernel p formed kernel)).1
names_differ true p kernel formed = shared-differ p kernel formed.body

-- the text of a compiled program whose wires are shared where they can be names its wires
net_wires : (c : Compiled) (p : Program) → IsCompiled c p → SharesWires p (is_shared c.graph) → FollowsGraph c → (written : List ℕ)
    → Means written (netlist_of c.net) → TextNames (one_per_leaf p) written p
net_wires c p h shares follows written means =
    let kernel = program_kernel p h.formed (kernel_of c.graph p h.program) in
    let reads = compiled_reads c p h follows in
    record {
      circuit = means.circuit;
      reads = means.reads;
      stored = latches_stored (is_shared c.graph) c.graph p (netlist_of c.net) reads (wires_carried c p h) follows.interface written means;
      wires = names_wires (is_shared c.graph) c.graph p (netlist_of c.net) reads (wires_carried c p h) kernel h.no_loop h.compiles.acyclic shares
          follows.runs written means h.keeps.inputs (inputs_wide c p h);
    }

c_net_wires : (c : Compiled) (p : Program) → IsCompiled c p → SharesWires p (is_shared c.graph) → FollowsGraph c → (written : List ℕ)
    → c_meant.Means written (netlist_of c.net) → CTextNames (one_per_leaf p) written p
c_net_wires c p h shares follows written means =
    let kernel = program_kernel p h.formed (kernel_of c.graph p h.program) in
    let reads = compiled_reads c p h follows in
    record {
      program = means.program;
      describes = means.describes;
      stored = states_stored (is_shared c.graph) c.graph p (netlist_of c.net) reads (wires_carried c p h) follows.interface written means;
      wires = holds_wires (is_shared c.graph) c.graph p (netlist_of c.net) reads (wires_carried c p h) kernel h.no_loop h.compiles.acyclic shares
          follows.runs written means (inputs_wide c p h);
    }

verilog_net_wires : (c : Compiled) (p : Program) → IsCompiled c p → SharesWires p (is_shared c.graph) → FollowsGraph c → (written : List ℕ)
    → verilog_meant.Means written (netlist_of c.net) → VerilogTextNames (one_per_leaf p) written p
verilog_net_wires c p h shares follows written means =
    let kernel = program_kernel p h.formed (kernel_of c.graph p h.program) in
    let reads = compiled_reads c p h follows in
    record {
      design = means.design;
      describes = means.describes;
      stored = registers_stored (is_shared c.graph) c.graph p (netlist_of c.net) reads (wires_carried c p h) follows.interface written means;
      wires = module_wires (is_shared c.graph) c.graph p (netlist_of c.net) reads (wires_carried c p h) kernel h.no_loop h.compiles.acyclic shares
          follows.runs written means;
    }

pub text_stands : (text : List ℕ) (main : Option (List ℕ)) (c : Compiled) (written : List ℕ) → (s : StandsForNet text main c)
    → SharesWires s.program (is_shared c.graph) → FollowsGraph c → Means written (netlist_of c.net) → StandsForText text main written
text_stands text main c written s shares follows means = record {
  program = s.program;
  source = s.source;
  compiles = s.compiled.compiles;
  keeps = text_keeps written (netlist_of c.net) s.program (given-few s.program s.compiled.formed) s.compiled.keeps means;
  names = net_wires c s.program s.compiled shares follows written means;
}

pub verilog_text_stands : (text : List ℕ) (main : Option (List ℕ)) (c : Compiled) (written : List ℕ) → (s : StandsForNet text main c)
    → SharesWires s.program (is_shared c.graph) → FollowsGraph c → verilog_meant.Means written (netlist_of c.net) → StandsForVerilog text main written
verilog_text_stands text main c written s shares follows means = record {
  program = s.program;
  source = s.source;
  compiles = s.compiled.compiles;
  keeps = verilog_text_keeps written (netlist_of c.net) s.program (given-few s.program s.compiled.formed) s.compiled.keeps means;
  names = verilog_net_wires c s.program s.compiled shares follows written means;
}

pub c_text_stands : (text : List ℕ) (main : Option (List ℕ)) (c : Compiled) (written : List ℕ) → (s : StandsForNet text main c)
    → SharesWires s.program (is_shared c.graph) → FollowsGraph c → c_meant.Means written (netlist_of c.net) → StandsForC text main written
c_text_stands text main c written s shares follows means = record {
  program = s.program;
  source = s.source;
  compiles = s.compiled.compiles;
  keeps = c_text_keeps written (netlist_of c.net) s.program (given-few s.program s.compiled.formed) s.compiled.keeps means;
  names = c_net_wires c s.program s.compiled shares follows written means;
}

-- ---- walks

-- the wires of a closed walk are ends of edges
pub walk_within : (pairs : List (ℕ × ℕ)) (walk : List ℕ) (count : ℕ) → IsClosedWalk pairs walk → All (λ e. (e.0 < count) × (e.1 < count)) pairs
    → (k : ℕ) → k < length walk → slice_index walk k < count
walk_within pairs walk count closed join k l = ⊎_elim inner last (cases_lt (k + 1) (length walk))
  where
    from : (u w : ℕ) → Contains pairs (u, w) → u < count
    from u w c = (All-contains (λ e. (e.0 < count) × (e.1 < count)) pairs (u, w) join c).0

    inner : k + 1 < length walk → slice_index walk k < count
    inner h = from (slice_index walk k) (slice_index walk (k + 1)) (closed.steps k h)

    last : length walk ≤ k + 1 → slice_index walk k < count
    last h =
        let e : length walk - 1 ≡ k = omega (arith, h, l) in
        subst (λ j. slice_index walk j < count) e (from (slice_index walk (length walk - 1)) (slice_index walk 0) closed.closes)

abbrev plain_edge : WireEdge → ℕ × ℕ
plain_edge e = (e.0.0, e.1.0)

pub walk_fits : (g : Graph) (edges : List Edge) (pairs : List WireEdge) (walk : List WireId) → AreEdgesOf (names_of g) edges pairs
    → IsClosedWalk (numbered pairs) (numbers_of walk) → All (λ w. w.0 < length g.wires.items) walk
walk_fits g edges pairs walk are closed k d l =
    let n = length (names_of g) in
    let join : All (λ e. (e.0 < n) × (e.1 < n)) (numbered pairs) = All-map (λ e. (e.0 < n) × (e.1 < n)) plain_edge pairs are.ascending.join in
    let low : slice_index (numbers_of walk) k < n = walk_within (numbered pairs) (numbers_of walk) n closed join k
    (omega (arith, l, length-map walk (λ (w : WireId). w.0))) in
    subst (λ m. (get_or walk k d).0 < m) (length-map g.wires.items (wire_of (instances_of g)))
    (subst (λ x. x < n) (get_or-map (λ (w : WireId). w.0) walk k d 0 l) low)

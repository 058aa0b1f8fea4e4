-- Names of wires and numbers of stored values, by hand, and what the passes make of a source, field by field.
use Rattle.std.proofs.Common.{◌≡◌, ◌+◌, ◌*◌, ◌<◌, ◌≤◌, ℕ, Bool, true, false, List, [], ◌∷◌, length, map, Option, Ok, codes, refl}
use Rattle.std.specs.Fmt.{digits}
use Rattle.std.specs.Prelude.{is_some, replicate, slice_index_or}
use Rattle.std.specs.List.{AllZip, list_any}
use Rattle.base_types.specs.Items.{Item}
use Rattle.est_kernel.specs.Plain.{Program, program_of}
use Rattle.est_kernel.specs.StaticCodes.{NoInstantLoop}
use Rattle.est_kernel.specs.Terms.{Pause, Seq, Par, Nothing}
use Rattle.est_kernel.specs.WellFormed.{IsWellFormed, HasNames}
use Rattle.base_machines.specs.Machines.{Machine, IsRun}
use Rattle.grc_graph.specs.declared.graph.Graph.{Graph}
use Rattle.grc_graph.specs.BuiltGraphs.{IsGraphOf}
use Rattle.grc_graph.specs.GraphRuns.{program_edges, program_wires}
use Rattle.grc_graph.specs.Instances.{body_instances}
use Rattle.grc_graph.specs.Layers.{Started}
use Rattle.grc_graph.specs.NumberedEdges.{AreEdgesOf}
use Rattle.grc_graph.specs.Orders.{GoUp}
use Rattle.grc_graph.specs.PlainGraphs.{formula_of, instances_of, names_of}
use Rattle.grc_graph.specs.Reads.{IsReadingOrder}
use Rattle.grc_graph.specs.Readings.{Valuation}
use Rattle.grc_graph.specs.SelectionTrees.{body_leaves, body_tree}
use Rattle.grc_graph.specs.TreeForms.{tree_node}
use Rattle.grc_graph.specs.Walk.{Selecting}
use Rattle.grc_graph.specs.WireOrders.{AreRanks, IsWireOrder}
use Rattle.grc_graph.specs.Wires.{Wire, Go}
use Rattle.grc_solutions_laws.specs.GraphWalks.{IsWalkOf, graph_walk}
use Rattle.grc_share.specs.SharedSizes.{shared_size}
use Rattle.grc_share.specs.SharedWires.{members, shared_edges, shared_wires}
use Rattle.csub_guard_blocks.specs.Blocks.{guarded_text}
use Rattle.csub_guard_blocks.specs.Owners.{owners}
use Rattle.grc_regions.specs.Regions.{AreRegions, HeadsAreFree}
use Rattle.csub_guard_writer.specs.Regions.{region_by}
use Rattle.net_ir.specs.Gates.{carried}
use Rattle.net_ir.specs.Netlists.{Netlist, output_names}
use Rattle.net_ir.specs.Runs.{netlist_of, initial_latches}
use Rattle.net_simp.specs.SameRuns.{SameRuns}
use Rattle.net_simp.specs.SimpleNets.{IsSimple}
use Rattle.net_gen.specs.Costs.{linear_bound}
use Rattle.csub_guard_writer_laws.specs.Guarded.{GuardedRuns}
use Rattle.net_state_enc.specs.EncodedCounts.{encoded_bits, encoded_count}
use Rattle.blif_text.specs.Circuits.{reading}
use Rattle.blif_text.specs.Runs.{circuit_machine}
use Rattle.blif_text.specs.Written as blif_texts
use Rattle.csub_text.specs.Machine.{program_machine}
use Rattle.csub_text.specs.Texts.{Describes}
use Rattle.csub_text.specs.Written as c_texts
use Rattle.vlog_text.specs.Machine.{vlog_machine}
use Rattle.vlog_text.specs.Texts as modules
use Rattle.vlog_text.specs.Written as verilog_texts
use Rattle.est_front.specs.Sources.{StandsFor}
use Rattle.cec_compile.specs.Compiling.{IsGraphed, FollowsEdges, IsCompiled, StandsForGraph, StandsForNet, StandsForText, StandsForC, StandsForVerilog}
use Rattle.cec_compile.specs.Compiling.{IsBlifOf, IsCOf, IsVerilogOf}
use Rattle.cec_compile.specs.Cycles.{IsCycle}
use Rattle.cec_compile.specs.EncodedTexts.{IsEncoded, StandsForEncoded, IsEncodedBlifOf}
use Rattle.cec_compile.specs.GuardedTexts.{GuardedTextKeeps, StandsForGuarded, IsGuardedOf}
use Rattle.cec_compile.specs.Meaning.{AreItems, TextKeeps, CTextKeeps, VerilogTextKeeps}
use Rattle.cec_compile.specs.NetMeaning.{NetKeeps}
use Rattle.cec_compile.specs.Refusals.{Compiles}
use Rattle.cec_compile.specs.SourceTexts.{IsSourceText}
use Rattle.cec_compile.specs.WireGroups.{SharesWires, graph_edges, graph_wires, is_shared, wire_groups}
use Rattle.cec_compile.specs.WireNames.{wire_word, wire_variable, TellsWires, walk_machine, WiresTold, NamesWires, one_per_leaf, TextNames, CTextNames}
use Rattle.cec_compile.specs.WireNames.{VerilogTextNames}
use Rattle.cec_compile.specs.declared.passes.Compiled.{Compiled}
use Rattle.cec_compile.specs.declared.passes.Graphed.{Graphed}
use Rattle.cec_compile.specs.declared.forms.TextForm.TheVariants as forms

-- ---- names and numbers

words : map wire_word (0 ∷ 12 ∷ []) ≡ codes "_w0" ∷ codes "_w12" ∷ []
unfolding digits
words = refl

variables : map wire_variable (0 ∷ 12 ∷ []) ≡ codes "w0" ∷ codes "w12" ∷ []
unfolding digits
variables = refl

-- two pauses
abbrev program : Program
program = record { name = codes "T"; signals = []; inputs = 0; both = 0; outputs = 0; relations = []; body = Seq Pause (Par Pause Nothing) }

stored : one_per_leaf program ≡ 3
stored = refl

-- ---- wires

told_wires : (name : ℕ → List ℕ) (groups : List (List Wire)) (v : List ℕ → Bool) (V : Valuation) → TellsWires name groups v V
    → (n : ℕ) → n < length groups → v (name n) ≡ list_any V (slice_index_or groups n [])
told_wires name groups v V h = h

-- a wire by itself, and two that are one
of_groups : (V : Valuation) → V (Go 1 (Started 0)) ≡ false → V (Go 1 (Started 1)) ≡ true
    → map (λ group. list_any V group) ((Go 1 (Started 0) ∷ []) ∷ (Go 1 (Started 0) ∷ (Go 1 (Started 1) ∷ [])) ∷ []) ≡ false ∷ true ∷ []
of_groups V off on = rw (off, on) refl

grouped : (p : Program) → (wire_groups false p ≡ map (λ w. w ∷ []) (program_wires p)) × (wire_groups true p ≡ map (members p) (shared_wires p))
grouped p = (refl, refl)

named_wires : (p : Program) → (graph_wires false p ≡ program_wires p) × (graph_wires true p ≡ shared_wires p)
    × (graph_edges false p ≡ program_edges p) × (graph_edges true p ≡ shared_edges p)
named_wires p = (refl, refl, refl, refl)

where_shared : (p : Program) → ((h : SharesWires p true) → GoUp h.rank (shared_edges p)) × ((h : SharesWires p false) → IsCycle (shared_edges p) h.walk)
where_shared p = (λ h. h.up, λ h. h.cycle)

told_apart : (g : Graph) → is_shared g ≡ is_some g.loops
told_apart g = refl

walked : (p : Program) (event : List Bool) (V : Valuation)
    → (walk_machine p).next (walk_machine p).start event V ≡ Selecting (graph_walk p (walk_machine p).start event V).kept
walked p event V = refl

walked_instants : (p : Program) (event : List Bool) (V : Valuation) → (walk_machine p).instant (walk_machine p).start event V
    → IsWalkOf p (walk_machine p).start event V
walked_instants p event V h = h

along_a_run : (name : ℕ → List ℕ) (groups : List (List Wire)) (p : Program) (items : List Item) (vs : List (List ℕ → Bool))
    (h : WiresTold name groups p items vs) → IsRun (walk_machine p) items h.run × AllZip (TellsWires name groups) vs h.run
along_a_run name groups p items vs h = (h.is_run, h.told)

along_each_run : (M : Machine (List ℕ → Bool)) (name : ℕ → List ℕ) (p : Program) (h : NamesWires M name p) → SharesWires p h.shared
    × ((items : List Item) → AreItems p items → (vs : List (List ℕ → Bool)) → IsRun M items vs → WiresTold name (wire_groups h.shared p) p items vs)
along_each_run M name p h = (h.shares, h.wires)

of_texts : (n : ℕ) (text : List ℕ) (p : Program) (h : TextNames n text p)
    → (reading text ≡ Ok h.circuit) × (length h.circuit.latches ≡ n) × NamesWires (circuit_machine h.circuit) wire_word p
of_texts n text p h = (h.reads, h.stored, h.wires)

of_c_texts : (n : ℕ) (text : List ℕ) (p : Program) (h : CTextNames n text p)
    → Describes text h.program × (length h.program.states ≡ n) × NamesWires (program_machine h.program) wire_variable p
of_c_texts n text p h = (h.describes, h.stored, h.wires)

of_verilog_texts : (n : ℕ) (text : List ℕ) (p : Program) (h : VerilogTextNames n text p)
    → modules.Describes text h.design × (length h.design.registers ≡ n) × NamesWires (vlog_machine h.design) wire_variable p
of_verilog_texts n text p h = (h.describes, h.stored, h.wires)

-- ---- passes

what_is_graphed : (g : Graphed) (p : Program) (h : IsGraphed g p) → IsWellFormed p × HasNames p × NoInstantLoop p.body × (length (body_instances
    p.body) ≤ 131072)
    × IsGraphOf g.graph p × (map tree_node g.graph.tree.nodes.items ≡ body_tree p.body) × (g.graph.tree.leaves ≡ length (body_leaves p.body))
    × (g.edges.count ≡ length g.graph.wires.items) × AreEdgesOf (names_of g.graph) (program_edges p) g.edges.pairs.items
    × AreRanks g.edges.count g.edges.pairs.items g.ranks.of.items
what_is_graphed g p h = (h.formed, h.names, h.no_loop, h.few, h.graph, h.tree, h.leaves, h.count, h.edges, h.ranks)

along_edges : (c : Compiled) (p : Program) (h : FollowsEdges c p)
    → AreEdgesOf (names_of c.graph) (graph_edges (is_shared c.graph) p) h.pairs × IsWireOrder (length c.graph.wires.items) h.pairs c.order.list.items
along_edges c p h = (h.edges, h.order)

what_is_compiled : (c : Compiled) (p : Program) (h : IsCompiled c p) → IsWellFormed p × NoInstantLoop p.body × Compiles p
    × (program_of c.graph.program ≡ p) × (names_of c.graph ≡ graph_wires (is_shared c.graph) p) × (is_shared c.graph ≡ false → IsGraphOf c.graph p)
    × (map tree_node c.graph.tree.nodes.items ≡ body_tree p.body) × (c.graph.tree.leaves ≡ length (body_leaves p.body))
    × IsReadingOrder (names_of c.graph) (map (formula_of (instances_of c.graph) (names_of c.graph)) c.graph.equations.items) c.order.list.items
    × FollowsEdges c p × (carried c.net.gates.items ≡ map (λ v. v.0) c.order.list.items) × (length c.net.gates.items ≤ linear_bound p)
    × (is_shared c.graph ≡ true → length c.net.gates.items ≤ 15 * shared_size p)
    × (map (λ l. l.init) c.net.latches.items ≡ true ∷ map (λ n. false) (body_leaves p.body)) × NetKeeps (netlist_of c.net) p × IsSimple (netlist_of c.net)
what_is_compiled c p h = (
  h.formed,
  h.no_loop,
  h.compiles,
  h.program,
  h.wires,
  h.own,
  h.tree,
  h.leaves,
  h.order,
  h.along,
  h.carried,
  h.linear,
  h.shared_linear,
  h.latches,
  h.keeps,
  h.simple,
)

what_is_encoded : (c : Compiled) (p : Program) (net : Netlist) (h : IsEncoded c p net) → (net.name ≡ (netlist_of c.net).name)
    × (net.inputs ≡ (netlist_of c.net).inputs) × (output_names net ≡ output_names (netlist_of c.net)) × (carried net.gates ≡ carried c.net.gates.items)
    × (initial_latches net ≡ true ∷ replicate (encoded_bits p.body) false) × SameRuns (netlist_of c.net) net × NetKeeps net p
    × (length net.gates ≤ length c.net.gates.items + 64 * (length (body_tree p.body) * length net.latches)) × IsSimple net
what_is_encoded c p net h = (h.name, h.inputs, h.outputs, h.carries, h.latches, h.runs, h.keeps, h.size, h.simple)

-- ---- what a source stands for

a_graph : (text : List ℕ) (main : Option (List ℕ)) (g : Graphed) (h : StandsForGraph text main g) → StandsFor text main h.program × IsGraphed g h.program
a_graph text main g h = (h.source, h.graphed)

a_net : (text : List ℕ) (main : Option (List ℕ)) (c : Compiled) (h : StandsForNet text main c) → StandsFor text main h.program × IsCompiled c h.program
a_net text main c h = (h.source, h.compiled)

a_blif_text : (text : List ℕ) (main : Option (List ℕ)) (written : List ℕ) → IsSourceText forms.Blif main text written
    → StandsForText text main written × IsBlifOf text main written
a_blif_text text main written h = h

an_encoded_text : (text : List ℕ) (main : Option (List ℕ)) (written : List ℕ) → IsSourceText forms.EncodedBlif main text written
    → StandsForEncoded text main written × IsEncodedBlifOf text main written
an_encoded_text text main written h = h

a_c_text : (text : List ℕ) (main : Option (List ℕ)) (written : List ℕ) → IsSourceText forms.C main text written
    → StandsForC text main written × IsCOf text main written
a_c_text text main written h = h

a_guarded_text : (text : List ℕ) (main : Option (List ℕ)) (written : List ℕ) → IsSourceText forms.Guarded main text written
    → StandsForGuarded text main written × IsGuardedOf text main written
a_guarded_text text main written h = h

a_verilog_text : (text : List ℕ) (main : Option (List ℕ)) (written : List ℕ) → IsSourceText forms.Verilog main text written
    → StandsForVerilog text main written × IsVerilogOf text main written
a_verilog_text text main written h = h

what_texts_keep : (text : List ℕ) (main : Option (List ℕ)) (written : List ℕ)
    → ((h : StandsForText text main written) → StandsFor text main h.program × Compiles h.program × TextKeeps written h.program
    × TextNames (one_per_leaf h.program) written h.program)
    × ((h : StandsForC text main written) → StandsFor text main h.program × Compiles h.program × CTextKeeps written h.program
    × CTextNames (one_per_leaf h.program) written h.program)
    × ((h : StandsForVerilog text main written) → StandsFor text main h.program × Compiles h.program × VerilogTextKeeps written h.program
    × VerilogTextNames (one_per_leaf h.program) written h.program)
    × ((h : StandsForEncoded text main written) → StandsFor text main h.program × Compiles h.program × TextKeeps written h.program
    × TextNames (encoded_count h.program.body) written h.program)
    × ((h : StandsForGuarded text main written) → StandsFor text main h.program × Compiles h.program × GuardedTextKeeps written h.program)
what_texts_keep text main written = (
  λ h. (h.source, h.compiles, h.keeps, h.names),
  λ h. (h.source, h.compiles, h.keeps, h.names),
  λ h. (h.source, h.compiles, h.keeps, h.names),
  λ h. (h.source, h.compiles, h.keeps, h.names),
  λ h. (h.source, h.compiles, h.keeps),
)

what_texts_are : (bytes : List ℕ) (main : Option (List ℕ)) (written : List ℕ)
    → ((h : IsBlifOf bytes main written) → SharesWires h.compiled.program (is_shared h.made.graph)
    × (written ≡ blif_texts.written (netlist_of h.made.net)))
    × ((h : IsCOf bytes main written) → SharesWires h.compiled.program (is_shared h.made.graph) × (written ≡ c_texts.written (netlist_of h.made.net)))
    × ((h : IsVerilogOf bytes main written) → SharesWires h.compiled.program (is_shared h.made.graph)
    × (written ≡ verilog_texts.written (netlist_of h.made.net)))
    × ((h : IsEncodedBlifOf bytes main written) → SharesWires h.compiled.program (is_shared h.made.graph)
    × IsEncoded h.made h.compiled.program h.net × (written ≡ blif_texts.written h.net))
what_texts_are bytes main written =
    (λ h. (h.shares, h.text), λ h. (h.shares, h.text), λ h. (h.shares, h.text), λ h. (h.shares, h.encoded, h.text))

what_guarded_texts_are : (bytes : List ℕ) (main : Option (List ℕ)) (written : List ℕ) (h : IsGuardedOf bytes main written)
    → StandsForNet bytes main h.made × (is_shared h.made.graph ≡ false) × AreRegions h.made.graph h.regions × HeadsAreFree h.regions
    × (written ≡ guarded_text (netlist_of h.made.net) (owners (netlist_of h.made.net) (region_by (netlist_of h.made.net) h.regions)))
    × GuardedRuns written (netlist_of h.made.net) h.regions
what_guarded_texts_are bytes main written h = (h.compiled, h.own, h.are, h.free, h.text, h.runs)

-- What is made of a graph's parts is the graph of its shared wires.
use Rattle.std.proofs.Common.{◌≡◌, ◌+◌, List, length, map, sym, ap, ◌∙◌, subst, Some}
use Rattle.std.specs.Prelude.{All, IsTrue}
use Rattle.std.proofs.lemmas.List.{length-map}
use Rattle.est_kernel.specs.Plain.{program_of, interface_of, interface_count}
use Rattle.est_kernel.proofs.Exports.{trees_are_kernels_lem}
use Rattle.grc_graph.specs.declared.graph.Graph.{Graph}
use Rattle.grc_graph.specs.declared.wires.Wire as wires
use Rattle.grc_graph.specs.BuiltGraphs.{IsGraphOf}
use Rattle.grc_graph.specs.GraphRuns.{program_wires}
use Rattle.grc_graph.specs.GraphShapes.{IndicesFit, wire_fits}
use Rattle.grc_graph.specs.Instances.{Instance, body_instances}
use Rattle.grc_graph.specs.Layouts.{IsLaidOut, laid_names}
use Rattle.grc_graph.specs.PlainGraphs.{equations_of, formula_of, instances_of, lasting_in, names_of, node_form, wire_of}
use Rattle.grc_graph.specs.PlainInstances.{instance_of}
use Rattle.grc_graph.specs.Scopes.{program_scope}
use Rattle.grc_graph.specs.SelectionTrees.{body_leaves}
use Rattle.grc_graph.specs.WireTables.{AreNeighbours}
use Rattle.grc_share.specs.declared.graphs.GraphParts.{GraphParts}
use Rattle.grc_share.specs.SharedGraphs.{shared_equations, shared_graph, shared_instances}
use Rattle.grc_share.specs.SharedParts.{AreGraphParts, IsGraphOfShared}
use Rattle.grc_share.specs.SharedWires.{shared_wires}
use Rattle.grc_share.proofs.EquationLists.{equations-shared}
use Rattle.grc_share.proofs.GraphParts.{parts-fit}
use Rattle.grc_share.proofs.SharedFinding.{shared-neighbours}
use Rattle.grc_share.proofs.SharedLayouts.{shared-layout}

module _ (g : Graph) (built : IsGraphOf g (program_of g.program)) (s : GraphParts) (are : AreGraphParts g s) where
  insts-many : length s.instances.items ≡ length (shared_instances (program_of g.program))
  insts-many = sym (length-map s.instances.items instance_of) ∙ ap length are.instances

  named : map (wire_of (map instance_of s.instances.items)) s.named.wires.items ≡ shared_wires (program_of g.program)
  named = ap (λ (xs : List Instance). map (wire_of xs) s.named.wires.items) are.instances ∙ are.named.wires

  -- the given graph's names, by its program
  laid-given : program_wires (program_of g.program)
      ≡ laid_names (program_of g.program) (body_instances (program_of g.program).body) (program_wires (program_of g.program))
  laid-given =
      sym built.wires ∙ g.laid_out.names ∙ (λ t. laid_names (program_of g.program) (built.instances t) (built.wires t))

  pub joined-layout : IsLaidOut (program_of g.program) (map instance_of s.instances.items) s.named.wires.items g.tree.nodes.items
      (length s.formulas.next.items)
  joined-layout =
      let p = program_of g.program in
      shared-layout p (trees_are_kernels_lem g.program.body) (map instance_of s.instances.items) are.instances s.named.wires.items g.tree.nodes.items
      (length s.formulas.next.items) g.laid_out.formed laid-given named g.laid_out.tree
      (sym (length-map s.formulas.next.items (formula_of (shared_instances p) (shared_wires p))) ∙ ap length are.formulas.next
      ∙ length-map (body_leaves p.body) _)

  pub joined-indices : IndicesFit (length s.instances.items) s.named.wires.items s.named.nodes.items s.formulas.equations.items s.formulas.next.items
  joined-indices = parts-fit g s are (trees_are_kernels_lem g.program.body)

  pub joined-neighbours : AreNeighbours s.instances.items s.named.wires.items s.tables.first_wires.items g.program.inputs
      (g.program.both + g.program.outputs)
  joined-neighbours =
      shared-neighbours g built s.instances.items s.named.wires.items s.tables.first_wires.items are.instances named
      (subst (λ n. All (λ (w : wires.Wire). IsTrue (wire_fits n w)) s.named.wires.items) (sym insts-many) are.named.wires_fit) are.tables.wires

-- a graph that has them
pub joined-shared : (g : Graph) (s : GraphParts) (m : Graph) → AreGraphParts g s → m.program ≡ g.program → m.instances.list.items ≡ s.instances.items
    → m.wires.items ≡ s.named.wires.items → m.nodes.items ≡ s.named.nodes.items → m.equations.items ≡ s.formulas.equations.items
    → m.next.items ≡ s.formulas.next.items → m.loops ≡ Some s.tables.loops → IsGraphOfShared (program_of g.program) m
joined-shared g s m are program list wires nodes equations next loops =
    let p = program_of g.program in
    let same : program_of m.program ≡ p = ap program_of program in
    let insts : instances_of m ≡ shared_instances p = ap (map instance_of) list ∙ are.instances in
    let names : names_of m ≡ shared_wires p = (λ t. map (wire_of (insts t)) (wires t)) ∙ are.named.wires in
    let eqs : equations_of (instances_of m) (names_of m) m.equations.items ≡ shared_equations p =
    (λ t. equations_of (insts t) (names t) (equations t)) ∙ equations-shared p s.formulas.equations.items are.formulas.equations in
    let nexts : map (formula_of (instances_of m) (names_of m)) m.next.items ≡ (shared_graph p).next =
    (λ t. map (formula_of (insts t) (names t)) (next t)) ∙ are.formulas.next in
    record {
      instances = insts;
      wires = names;
      nodes = (λ t. map (node_form (insts t) (names t)) (nodes t)) ∙ are.named.nodes;
      graph = λ t. record {
        interface = interface_of (same t);
        scope = program_scope (same t).inputs (interface_count (same t));
        body = (same t).body;
        equations = eqs t;
        leaves = body_leaves (same t).body;
        next = nexts t;
        lasting = lasting_in (loops t) (same t).body;
      };
    }

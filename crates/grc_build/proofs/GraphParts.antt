-- The parts of a graph, and the graph that they make.
use Rattle.std.specs.Prelude.{None}
use Rattle.est_kernel.specs.WellFormed.{IsWellFormed}
use Rattle.grc_graph.specs.declared.graph.Graph.{Graph}
use Rattle.grc_graph.specs.declared.neighbours.Neighbours.{Neighbours}
use Rattle.grc_graph.specs.declared.trees.SelTree.{SelTree}
use Rattle.grc_graph.specs.BuiltGraphs.{IsGraphOf}
use Rattle.grc_graph.specs.GraphShapes.{IndicesFit}
use Rattle.grc_graph.specs.Layouts.{IsLaidOut}
use Rattle.grc_graph.specs.PlainGraphs.{instances_of, names_of, lasting_in}
use Rattle.grc_graph.specs.SelectionTrees.{body_tree}
use Rattle.grc_graph.proofs.Exports.{laid-out}
use Rattle.grc_build.specs.declared.graphs.Formulas.{Formulas}
use Rattle.grc_build.specs.Parts.{AreFormulas, AreFormulasBy, IsLayoutOf}
use Rattle.grc_build.proofs.Words.{◌≡◌, ◌≤◌, length, map, refl, sym, ap, ◌∙◌, subst, All, IsTrue, length-map, WIRES, KernelProgram, program_of, interface_of}
use Rattle.grc_build.proofs.Words.{interface_count, trees_are_kernels_lem, Instances, graph_size, graph_of, program_spots, formula_fits, node_fits}
use Rattle.grc_build.proofs.Words.{body_instances, instances_in, names_in, program_wires, wire_of, node_form}
use Rattle.grc_build.proofs.Words.{formula_of, equations_of, instance_of, program_rows}
use Rattle.grc_build.proofs.Words.{spot_at, program_scope, body_leaves, wires_fit, program_spots_by_row, Parts, Tables, AreParts, AreTables, program_in}
use Rattle.grc_build.proofs.Words.{wire_formula}
use Rattle.grc_graph.specs.Nodes as plain
use Rattle.grc_graph.specs.TreeForms as forms
use Rattle.grc_build.proofs.TableFacts.{kernel_of}
use Rattle.grc_build.proofs.WireEquations.{equation_of, equations_by_wire, equations_zipped}

-- the indices of the formulas
indices_of : (t : Tables) (x : Formulas) → AreTables t
    → map (node_form (instances_in t.wires) (names_in t.wires)) x.nodes.items ≡ map plain.spot_node (program_spots (program_in t))
    → All (λ v. IsTrue (node_fits (length (instances_in t.wires)) (length (names_in t.wires)) v)) x.nodes.items
    → map (formula_of (instances_in t.wires) (names_in t.wires)) x.equations.items ≡ map (wire_formula (program_in t)) (names_in t.wires)
    → All (λ f. IsTrue (formula_fits (length (instances_in t.wires)) (length (names_in t.wires)) f)) x.equations.items
    → All (λ f. IsTrue (formula_fits (length (instances_in t.wires)) (length (names_in t.wires)) f)) x.next.items
    → IndicesFit (length (instances_in t.wires)) t.wires.wires.now x.nodes.items x.equations.items x.next.items
indices_of t x h n nf e ef kf =
    let insts = instances_in t.wires in
    let names = names_in t.wires in
    let p = program_in t in
    let all : length names ≡ length t.wires.wires.now = length-map t.wires.wires.now (wire_of insts) in
    record {
      nodes_all = sym (length-map x.nodes.items (node_form insts names)) ∙ ap length n ∙ length-map (program_spots p) plain.spot_node
          ∙ ap length (program_spots_by_row p (kernel_of t)) ∙ length-map (body_instances p.body) (spot_at (program_rows p)) ∙ ap length (sym h.instances);
      equations_all = sym (length-map x.equations.items (formula_of insts names)) ∙ ap length e ∙ length-map names (wire_formula p) ∙ all;
      wires_fit = λ k d l. wires_fit t.wires.list.now t.wires.wires.now t.wires.first.now t.wires.inputs t.wires.outgoing t.wires.tables k d l;
      nodes_fit = subst (λ m. All (λ v. IsTrue (node_fits (length insts) m v)) x.nodes.items) all nf;
      equations_fit = subst (λ m. All (λ f. IsTrue (formula_fits (length insts) m f)) x.equations.items) all ef;
      next_fit = subst (λ m. All (λ f. IsTrue (formula_fits (length insts) m f)) x.next.items) all kf;
    }

-- the formulas that are made of the tables
pub formulas_of : (t : Tables) (x : Formulas) → AreTables t
    → map (node_form (instances_in t.wires) (names_in t.wires)) x.nodes.items ≡ map plain.spot_node (program_spots (program_in t))
    → All (λ v. IsTrue (node_fits (length (instances_in t.wires)) (length (names_in t.wires)) v)) x.nodes.items
    → map (formula_of (instances_in t.wires) (names_in t.wires)) x.equations.items ≡ map (wire_formula (program_in t)) (names_in t.wires)
    → All (λ f. IsTrue (formula_fits (length (instances_in t.wires)) (length (names_in t.wires)) f)) x.equations.items
    → map (formula_of (instances_in t.wires) (names_in t.wires)) x.next.items ≡ (graph_of (program_in t)).next
    → All (λ f. IsTrue (formula_fits (length (instances_in t.wires)) (length (names_in t.wires)) f)) x.next.items
    → AreFormulas t x
formulas_of t x h n nf e ef k kf =
    let insts = instances_in t.wires in
    let names = names_in t.wires in
    let p = program_in t in
    record {
      nodes = n;
      equations = equations_zipped insts names names (wire_formula p) x.equations.items e ∙ ap (map (equation_of p)) h.wires
          ∙ sym (equations_by_wire p (kernel_of t));
      next = k;
      indices = indices_of t x h n nf e ef kf;
    }

-- the parts that are made of a layout
pub parts_of : (p : KernelProgram) (live : Instances) (near : Neighbours) (x : Parts)
    → IsLayoutOf p live x.layout
    → near.list.now ≡ live.list.items
    → near.wires.now ≡ x.layout.wires.items
    → AreFormulasBy (program_of p) (instances_in near) near.wires.now (names_in near) x.formulas
    → AreParts p live x
parts_of p live near x h l w f = record {
  layout = h;
  formulas = subst (λ raw. AreFormulasBy (program_of p) (map instance_of live.list.items) raw (map (wire_of (map instance_of live.list.items)) raw) x.formulas)
      w (subst (λ insts. AreFormulasBy (program_of p) (map instance_of insts) near.wires.now (map (wire_of (map instance_of insts)) near.wires.now) x.formulas)
      l f);
}

-- what they are laid out over
pub laid_by : (p : KernelProgram) (live : Instances) (tree : SelTree) (x : Parts) → IsWellFormed (program_of p)
    → map instance_of live.list.items ≡ body_instances (program_of p).body
    → map forms.tree_node tree.nodes.items ≡ body_tree (program_of p).body
    → AreParts p live x
    → IsLaidOut (program_of p) (map instance_of live.list.items) x.layout.wires.items tree.nodes.items (length x.formulas.next.items)
laid_by p live tree x w l t h =
    laid-out (program_of p) (trees_are_kernels_lem p.body) (map instance_of live.list.items) x.layout.wires.items tree.nodes.items
    (length x.formulas.next.items) w l h.layout.wires t
    (sym (length-map x.formulas.next.items _) ∙ ap length h.formulas.next ∙ length-map (body_leaves (program_of p).body) _)

-- the graph that they make
pub graph_by : (g : Graph) (x : Parts)
    → map instance_of g.instances.list.items ≡ body_instances (program_of g.program).body
    → AreParts g.program g.instances x
    → graph_size (program_of g.program) ≤ WIRES
    → g.nodes.items ≡ x.formulas.nodes.items
    → g.wires.items ≡ x.layout.wires.items
    → g.equations.items ≡ x.formulas.equations.items
    → g.next.items ≡ x.formulas.next.items
    → g.loops ≡ None
    → IsGraphOf g (program_of g.program)
graph_by g x live h few n w e k own_loops =
    let p = program_of g.program in
    let insts = instances_of g in
    let names : names_of g ≡ program_wires p = ap (map (wire_of insts)) w ∙ h.layout.wires in
    let own : AreFormulasBy p insts x.layout.wires.items (names_of g) x.formulas
    = subst (λ raw. AreFormulasBy p insts x.layout.wires.items (map (wire_of insts) raw) x.formulas) (sym w) h.formulas in
    let equations : equations_of insts (names_of g) g.equations.items ≡ (graph_of p).equations = ap (equations_of insts (names_of g)) e ∙ own.equations in
    let lasts = ap (λ loops. lasting_in loops p.body) own_loops in
    let next : map (formula_of insts (names_of g)) g.next.items ≡ (graph_of p).next = ap (map (formula_of insts (names_of g))) k ∙ own.next in
    record {
      program = refl;
      instances = live;
      wires = names;
      nodes = ap (map (node_form insts (names_of g))) n ∙ own.nodes;
      graph = λ i. record {
        interface = interface_of p;
        scope = program_scope p.inputs (interface_count p);
        body = p.body;
        equations = equations i;
        leaves = body_leaves p.body;
        next = next i;
        lasting = lasts i;
      };
      few = few;
      own = own_loops;
    }

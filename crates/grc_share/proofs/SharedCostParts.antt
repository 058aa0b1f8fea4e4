-- The graph that is made of a program's shared wires needs few gates.
use Rattle.std.proofs.Common.{Some, length, map, sym, ap, ◌∙◌, subst}
use Rattle.std.proofs.lemmas.List.{length-map}
use Rattle.est_kernel.specs.Plain.{program_of}
use Rattle.est_kernel.proofs.Exports.{trees_are_kernels_lem}
use Rattle.grc_graph.specs.declared.graph.Graph.{Graph}
use Rattle.grc_graph.specs.BuiltGraphs.{IsGraphOf}
use Rattle.grc_graph.specs.FewGates.{HasFewGates}
use Rattle.grc_graph.specs.PlainGraphs.{wire_of}
use Rattle.grc_graph.specs.PlainInstances.{instance_of}
use Rattle.grc_share.specs.declared.graphs.GraphParts.{GraphParts}
use Rattle.grc_share.specs.SharedGraphs.{shared_instances}
use Rattle.grc_share.specs.SharedParts.{AreGraphParts}
use Rattle.grc_share.proofs.EquationLists.{equations-shared}
use Rattle.grc_share.proofs.SharedCostBounds.{shared_few}

pub made_few : (g : Graph) (s : GraphParts) → IsGraphOf g (program_of g.program) → AreGraphParts g s
    → HasFewGates (program_of g.program) (map instance_of s.instances.items) (Some s.tables.loops) (length s.named.wires.items)
    s.formulas.equations.items s.formulas.next.items
made_few g s built are =
    let p = program_of g.program in
    let formulas = are.formulas in
    let few = shared_few p (trees_are_kernels_lem g.program.body) g.laid_out.formed.body built.few s.tables.loops s.formulas.equations.items
    s.formulas.next.items formulas.equations.each (equations-shared p s.formulas.equations.items formulas.equations) formulas.next in
    let many = sym (ap length are.named.wires) ∙ length-map s.named.wires.items (wire_of (shared_instances p)) in
    subst (λ insts. HasFewGates p insts (Some s.tables.loops) (length s.named.wires.items) s.formulas.equations.items s.formulas.next.items)
    (sym are.instances)
    (subst (λ n. HasFewGates p (shared_instances p) (Some s.tables.loops) n s.formulas.equations.items s.formulas.next.items) many few)

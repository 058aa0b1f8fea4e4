use Rattle.std.proofs.Common.{rules, ◌≡◌, ◌++◌, ◌∙◌, List, [], length, ap, sym, subst}
use Rattle.std.specs.Prelude.{AllPairs, Contains, IsTrue, ◌↔◌}
use Rattle.std.proofs.lemmas.List.{length-map}
use Rattle.est_kernel.specs.Plain.{program_of}
use Rattle.est_kernel.proofs.Exports.{trees_are_kernels_lem}
use Rattle.grc_graph.specs.declared.graph.Graph.{Graph}
use Rattle.grc_graph.specs.declared.neighbours.Neighbours.{Neighbours}
use Rattle.grc_graph.specs.BuiltGraphs.{IsGraphOf}
use Rattle.grc_graph.specs.Edges.{Edge, edges}
use Rattle.grc_graph.specs.GraphRuns.{program_spots}
use Rattle.grc_graph.specs.Neighbouring.{names_in}
use Rattle.grc_graph.specs.NumberedEdges.{AreEdgesOf}
use Rattle.grc_graph.specs.PlainGraphs.{names_of, wire_of, instances_of}
use Rattle.grc_graph.specs.WireOrders.{WireEdge, AreEdges, edge_before}
use Rattle.grc_graph.specs.Wires.{Wire}
use Rattle.grc_dep.specs.Names.{Apart}
use Rattle.grc_dep.specs.Found.{found}
use Rattle.grc_dep.proofs.WiresApart.{wires_apart}
use Rattle.grc_dep.proofs.FoundPairs.{are_edges_of}
use Rattle.grc_dep.proofs.graph_edges.edges.Goals as goal

-- no two wires that the tables of a graph name are the same
own-apart : (g : Graph) (near : Neighbours) → IsGraphOf g (program_of g.program) → names_in near ≡ names_of g → Apart (names_in near)
own-apart g near built e = subst Apart (sym (e ∙ built.wires)) (wires_apart (program_of g.program) (trees_are_kernels_lem g.program.body))

pub invariant_of-lookups : goal.invariant_of-lookups
invariant_of-lookups c =
    let g = c.args.graph.now in
    record { apart = own-apart g c.neighbours-tables.result c.requires c.neighbours-tables.ensures.wires }

-- what is found, sorted
sorted : (names ws : List Wire) (es : List Edge) (none found_pairs pairs : List WireEdge) → names ≡ ws → Apart ws → none ≡ []
    → found_pairs ≡ none ++ found ws es → AllPairs (λ d e. IsTrue (edge_before d e)) pairs
    → ((x : WireEdge) → Contains pairs x ↔ Contains found_pairs x) → AreEdgesOf names es pairs
sorted names ws es none found_pairs pairs e apart empty is ascend same =
    subst (λ ws. AreEdgesOf ws es pairs) (sym e)
    (are_edges_of ws es pairs apart ascend (λ x. subst (λ ps. Contains pairs x ↔ Contains ps x) (is ∙ ap (λ l. l ++ found ws es) empty) (same x)))

pub returns-clause-edges : goal.returns-clause-edges
returns-clause-edges c =
    let g = c.args.graph.now in
    let p = program_of g.program in
    sorted (names_of g) (names_in c.neighbours-tables.result) (edges (program_spots p)) c.in_ok-pairs.pairs.items c.push_edges.new.pairs.items
    c.sort_pairs.new.pairs.items (sym c.neighbours-tables.ensures.wires)
    (own-apart g c.neighbours-tables.result c.requires c.neighbours-tables.ensures.wires) c.in_ok-pairs.ensures.items
    c.in_ok-push_edges.ensures c.in_ok-sort_pairs.ensures.ascend c.in_ok-sort_pairs.ensures.same

pub invariant_of-result : goal.invariant_of-result
invariant_of-result c =
    let g = c.args.graph.now in
    let p = program_of g.program in
    let are = sorted (names_of g) (names_in c.neighbours-tables.result) (edges (program_spots p)) c.in_ok-pairs.pairs.items c.push_edges.new.pairs.items
    c.sort_pairs.new.pairs.items (sym c.neighbours-tables.ensures.wires)
    (own-apart g c.neighbours-tables.result c.requires c.neighbours-tables.ensures.wires) c.in_ok-pairs.ensures.items
    c.in_ok-push_edges.ensures c.in_ok-sort_pairs.ensures.ascend c.in_ok-sort_pairs.ensures.same in
    let count : length (names_of g) ≡ c.len-2.result = length-map g.wires.items (wire_of (instances_of g)) ∙ sym (search rules) in
    record { are_edges = subst (λ n. AreEdges n c.sort_pairs.new.pairs.items) count are.ascending }

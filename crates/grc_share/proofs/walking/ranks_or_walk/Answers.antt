use Rattle.std.proofs.Common.{rules, ◌≡◌, ℕ, ◌<◌, List, length, sym, ap, ◌∙◌, subst, arith}
use Rattle.std.specs.Prelude.{All}
use Rattle.std.proofs.lemmas.List.{length-map}
use Rattle.est_kernel.specs.Plain.{program_of}
use Rattle.est_kernel.proofs.Exports.{trees_are_kernels_lem}
use Rattle.grc_graph.specs.GraphRuns.{program_edges}
use Rattle.grc_graph.specs.NumberedEdges.{AreEdgesOf}
use Rattle.grc_graph.specs.PlainGraphs.{instances_of, wire_of}
use Rattle.grc_graph.specs.Wires.{Wire}
use Rattle.grc_graph.specs.WireOrders.{WireEdge}
use Rattle.grc_share.specs.SharedPairs.{numbered_pairs}
use Rattle.grc_share.proofs.SharedPairing.{cyclic, ends-low, found, least-few, nodes-join}
use Rattle.grc_share.proofs.walking.ranks_or_walk.Goals as goal

pub pairs_between-requires : goal.pairs_between-requires
pairs_between-requires c =
    let g = c.args.graph.now in
    let p = program_of g.program in
    let s = c.args.shared.now in
    let edges = subst (λ (ns : List Wire). AreEdgesOf ns (program_edges p) c.args.edges.now.pairs.items) c.requires.built.wires c.requires.edges in
    let low = ends-low p (trees_are_kernels_lem g.program.body) g.laid_out.formed.body c.edges_join_wires.ensures s.least.items s.numbers.items
    c.requires.wires c.args.edges.now.pairs.items edges in
    subst (λ (n : List ℕ). All (λ (e : WireEdge). (e.0.0 < length n) × (e.1.0 < length n)) c.deref-2.result.now) (sym c.deref.ensures.value)
    (subst (λ (l : List WireEdge). All (λ (e : WireEdge). (e.0.0 < length s.numbers.items) × (e.1.0 < length s.numbers.items)) l)
    (sym c.deref-2.ensures.value) low)

pub overflow_cast-len : goal.overflow_cast-len
overflow_cast-len c =
    let g = c.args.graph.now in
    let p = program_of g.program in
    let s = c.args.shared.now in
    let edges = subst (λ (ns : List Wire). AreEdgesOf ns (program_edges p) c.args.edges.now.pairs.items) c.requires.built.wires c.requires.edges in
    let few = least-few p (trees_are_kernels_lem g.program.body) g.laid_out.formed.body c.edges_join_wires.ensures s.least.items s.numbers.items
    c.requires.wires c.args.edges.now.pairs.items edges in
    let count : c.len.result ≡ length s.least.items = search rules in
    omega (arith, few, count, length-map g.wires.items (wire_of (instances_of g)), ap length c.requires.built.wires, g.tables.few)

pub ranks_or_cycle-requires : goal.ranks_or_cycle-requires
ranks_or_cycle-requires c =
    let g = c.args.graph.now in
    let p = program_of g.program in
    let s = c.args.shared.now in
    let edges = subst (λ (ns : List Wire). AreEdgesOf ns (program_edges p) c.args.edges.now.pairs.items) c.requires.built.wires c.requires.edges in
    let count : c.len.result ≡ length s.least.items = search rules in
    let nodes = c.deref-3.ensures.value ∙ c.in_ok-pairs.ensures ∙ λ i. numbered_pairs (c.deref.ensures.value i) (c.deref-2.ensures.value i) in
    nodes-join p (trees_are_kernels_lem g.program.body) g.laid_out.formed.body c.edges_join_wires.ensures s.least.items s.numbers.items
    c.requires.wires c.args.edges.now.pairs.items edges c.len.result c.deref-3.result.now count nodes

pub returns-clause-found : goal.returns-clause-found
returns-clause-found c =
    let g = c.args.graph.now in
    let p = program_of g.program in
    let s = c.args.shared.now in
    let edges = subst (λ (ns : List Wire). AreEdgesOf ns (program_edges p) c.args.edges.now.pairs.items) c.requires.built.wires c.requires.edges in
    let count : c.len.result ≡ length s.least.items = search rules in
    let nodes = c.deref-3.ensures.value ∙ c.in_ok-pairs.ensures ∙ λ i. numbered_pairs (c.deref.ensures.value i) (c.deref-2.ensures.value i) in
    found p (trees_are_kernels_lem g.program.body) g.laid_out.formed.body c.edges_join_wires.ensures s.least.items s.numbers.items
    c.requires.wires c.args.edges.now.pairs.items edges c.len.result c.deref-3.result.now count nodes
    c.in_ok-ranks_or_cycle.field-0 c.in_ok-ranks_or_cycle.ensures.found

pub returns-clause-cyclic : goal.returns-clause-cyclic
returns-clause-cyclic c =
    let g = c.args.graph.now in
    let p = program_of g.program in
    let s = c.args.shared.now in
    let edges = subst (λ (ns : List Wire). AreEdgesOf ns (program_edges p) c.args.edges.now.pairs.items) c.requires.built.wires c.requires.edges in
    let count : c.len.result ≡ length s.least.items = search rules in
    let nodes = c.deref-3.ensures.value ∙ c.in_ok-pairs.ensures ∙ λ i. numbered_pairs (c.deref.ensures.value i) (c.deref-2.ensures.value i) in
    cyclic p (trees_are_kernels_lem g.program.body) g.laid_out.formed.body c.edges_join_wires.ensures s.least.items s.numbers.items
    c.requires.wires c.args.edges.now.pairs.items edges c.len.result c.deref-3.result.now count nodes
    c.in_ok-ranks_or_cycle.field-0 c.in_ok-ranks_or_cycle.ensures.cyclic

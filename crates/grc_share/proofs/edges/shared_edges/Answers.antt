use Rattle.std.proofs.Common.{rules, ◌≡◌, ℕ, ◌<◌, List, length, sym, ap, ◌∙◌, subst, arith}
use Rattle.std.specs.Prelude.{All, Contains, ◌↔◌}
use Rattle.std.proofs.lemmas.List.{length-map}
use Rattle.est_kernel.specs.Plain.{program_of}
use Rattle.est_kernel.proofs.Exports.{trees_are_kernels_lem}
use Rattle.grc_graph.specs.GraphRuns.{program_edges}
use Rattle.grc_graph.specs.NumberedEdges.{AreEdgesOf}
use Rattle.grc_graph.specs.PlainGraphs.{instances_of, wire_of}
use Rattle.grc_graph.specs.Wires.{Wire}
use Rattle.grc_graph.specs.WireOrders.{WireEdge}
use Rattle.grc_share.specs.SharedPairs.{numbered_edges}
use Rattle.grc_share.proofs.SharedPairing.{ends-low, joined-edges, joined-low, least-few, least-many}
use Rattle.grc_share.proofs.edges.shared_edges.Goals as goal

pub numbered_edges-requires : goal.numbered_edges-requires
numbered_edges-requires c =
    let g = c.args.graph.now in
    let p = program_of g.program in
    let s = c.args.shared.now in
    let edges = subst (λ (ns : List Wire). AreEdgesOf ns (program_edges p) c.args.edges.now.pairs.items) c.requires.built.wires c.requires.edges in
    let low = ends-low p (trees_are_kernels_lem g.program.body) g.laid_out.formed.body c.edges_join_wires.ensures s.least.items s.numbers.items
    c.requires.wires c.args.edges.now.pairs.items edges in
    subst (λ (n : List ℕ). All (λ (e : WireEdge). (e.0.0 < length n) × (e.1.0 < length n)) c.deref-2.result.now) (sym c.deref.ensures.value)
    (subst (λ (l : List WireEdge). All (λ (e : WireEdge). (e.0.0 < length s.numbers.items) × (e.1.0 < length s.numbers.items)) l)
    (sym c.deref-2.ensures.value) low)

pub overflow_cast-len : goal.overflow_cast-len
overflow_cast-len c =
    let g = c.args.graph.now in
    let p = program_of g.program in
    let s = c.args.shared.now in
    let edges = subst (λ (ns : List Wire). AreEdgesOf ns (program_edges p) c.args.edges.now.pairs.items) c.requires.built.wires c.requires.edges in
    let few = least-few p (trees_are_kernels_lem g.program.body) g.laid_out.formed.body c.edges_join_wires.ensures s.least.items s.numbers.items
    c.requires.wires c.args.edges.now.pairs.items edges in
    let count : c.len.result ≡ length s.least.items = search rules in
    omega (arith, few, count, length-map g.wires.items (wire_of (instances_of g)), ap length c.requires.built.wires, g.tables.few)

pub edges_of-requires : goal.edges_of-requires
edges_of-requires c =
    let g = c.args.graph.now in
    let p = program_of g.program in
    let s = c.args.shared.now in
    let edges = subst (λ (ns : List Wire). AreEdgesOf ns (program_edges p) c.args.edges.now.pairs.items) c.requires.built.wires c.requires.edges in
    let count : c.len.result ≡ length s.least.items = search rules in
    let numbered = c.in_ok-pairs.ensures ∙ λ i. numbered_edges (c.deref.ensures.value i) (c.deref-2.ensures.value i) in
    subst (λ (l : List WireEdge). All (λ (e : WireEdge). (e.0.0 < c.len.result) × (e.1.0 < c.len.result)) l) (sym numbered)
    (joined-low p (trees_are_kernels_lem g.program.body) g.laid_out.formed.body c.edges_join_wires.ensures s.least.items s.numbers.items
    c.requires.wires c.args.edges.now.pairs.items edges c.len.result count)

pub returns-clause-count : goal.returns-clause-count
returns-clause-count c =
    let g = c.args.graph.now in
    let p = program_of g.program in
    let s = c.args.shared.now in
    let edges = subst (λ (ns : List Wire). AreEdgesOf ns (program_edges p) c.args.edges.now.pairs.items) c.requires.built.wires c.requires.edges in
    let count : c.len.result ≡ length s.least.items = search rules in
    c.in_ok-made.ensures.count ∙ count
    ∙ least-many p (trees_are_kernels_lem g.program.body) g.laid_out.formed.body c.edges_join_wires.ensures s.least.items s.numbers.items
    c.requires.wires c.args.edges.now.pairs.items edges

pub returns-clause-edges : goal.returns-clause-edges
returns-clause-edges c =
    let g = c.args.graph.now in
    let p = program_of g.program in
    let s = c.args.shared.now in
    let edges = subst (λ (ns : List Wire). AreEdgesOf ns (program_edges p) c.args.edges.now.pairs.items) c.requires.built.wires c.requires.edges in
    let count : c.len.result ≡ length s.least.items = search rules in
    let made = c.in_ok-made.made in
    let numbered = c.in_ok-pairs.ensures ∙ λ i. numbered_edges (c.deref.ensures.value i) (c.deref-2.ensures.value i) in
    joined-edges p (trees_are_kernels_lem g.program.body) g.laid_out.formed.body c.edges_join_wires.ensures s.least.items s.numbers.items
    c.requires.wires c.args.edges.now.pairs.items edges made.count made.pairs.items (c.in_ok-made.ensures.count ∙ count) made.are_edges
    (λ e. subst (λ (l : List WireEdge). Contains made.pairs.items e ↔ Contains l e) numbered (c.in_ok-made.ensures.same e))

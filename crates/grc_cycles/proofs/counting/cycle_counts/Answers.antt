use Rattle.std.proofs.Common.{◌≡◌, length, sym, subst, ap, ◌∙◌}
use Rattle.std.proofs.lemmas.List.{length-map}
use Rattle.est_kernel.specs.Plain.{program_of}
use Rattle.grc_graph.specs.GraphRuns.{program_edges, program_wires}
use Rattle.grc_graph.specs.NumberedEdges.{AreEdgesOf}
use Rattle.grc_graph.specs.PlainGraphs.{instances_of}
use Rattle.grc_graph.specs.PlainInstances.{wire_of}
use Rattle.grc_cycles.specs.Cuts.{HaveCounts}
use Rattle.grc_cycles.proofs.counting.cycle_counts.Goals as goal

pub returns : goal.returns
returns c =
    let g = c.args.graph.now in
    let p = program_of g.program in
    let edges = c.in_ok-edges.edges in
    let counts = c.in_ok-counts.counts in
    let many : edges.count ≡ length (program_wires p) =
    c.in_ok-edges.ensures.count ∙ sym (length-map g.wires.items (wire_of (instances_of g))) ∙ ap length c.requires.wires in
    record {
      pairs = edges.pairs.items;
      are_edges = subst (λ ws. AreEdgesOf ws (program_edges p) edges.pairs.items) c.requires.wires c.in_ok-edges.ensures.edges;
      have_counts = subst (λ n. HaveCounts n edges.pairs.items counts.components counts.cuts) many c.in_ok-counts.ensures;
    }

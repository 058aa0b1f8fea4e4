use Rattle.est_kernel.specs.Plain.{program_of}
use Rattle.cec_compile.proofs.Joined.{graphed_is, own_built}
use Rattle.cec_compile.proofs.passes.program_graph.Goals as goal

pub ranked_edges-requires : goal.ranked_edges-requires
ranked_edges-requires c = own_built c.in_ok-graph.graph (program_of c.args.analysed.program) c.in_ok-graph.ensures.built

pub returns-clause-graphed : goal.returns-clause-graphed
returns-clause-graphed c =
    let e = c.in_ok-ranked.ensures in
    graphed_is c.in_ok-graph.graph c.in_ok-ranked.ranked.edges c.in_ok-ranked.ranked.ranks (program_of c.args.analysed.program)
    c.in_ok-graph.ensures.built e.count e.edges e.ranks

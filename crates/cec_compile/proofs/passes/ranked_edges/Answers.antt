use Rattle.cec_compile.proofs.passes.ranked_edges.Goals as goal

pub edges-requires : goal.edges-requires
edges-requires c = c.requires.graph

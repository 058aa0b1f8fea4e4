use Rattle.est_kernel.specs.Plain.{program_of}
use Rattle.grc_graph.specs.GraphRuns.{program_edges}
use Rattle.grc_graph.specs.PlainGraphs.{names_of}
use Rattle.cec_compile.proofs.GraphFacts.{shows_cycle}
use Rattle.cec_compile.proofs.Joined.{walk_fits}
use Rattle.cec_compile.proofs.cycles.cycle_of.Goals as goal

pub names_of-requires : goal.names_of-requires
names_of-requires c =
    let g = c.args.graph.now in
    walk_fits g (program_edges (program_of g.program)) c.args.edges.now.pairs.items c.args.walk.now c.requires.edges c.requires.closed

pub returns : goal.returns
returns c =
    let g = c.args.graph.now in
    shows_cycle (program_of g.program) (names_of g) c.args.edges.now.pairs.items c.args.walk.now _ c.requires.edges c.requires.closed c.in_ok-wires.ensures

use Rattle.std.proofs.Common.{◌∙◌}
use Rattle.est_kernel.specs.Plain.{program_of}
use Rattle.est_kernel.proofs.Exports.{trees_are_kernels_lem}
use Rattle.grc_solutions_laws.proofs.Exports.{program_kernel}
use Rattle.grc_solutions.proofs.Exports.{reads_are_edges_lem, wires_differ_lem}
use Rattle.grc_ternary_run.proofs.Premises.{equations-plain, wires-differ}
use Rattle.grc_ternary_run.proofs.systems.graph_system.Goals as goal

pub make_system-requires-clause-plain : goal.make_system-requires-clause-plain
make_system-requires-clause-plain c =
    let p = program_of c.args.graph.now.program in
    equations-plain c.args.graph.now p reads_are_edges_lem
    (program_kernel p c.args.graph.now.laid_out.formed (trees_are_kernels_lem c.args.graph.now.program.body)) c.requires.graph

pub returns : goal.returns
returns c =
    let g = c.args.graph.now in
    let p = program_of g.program in
    let codes = program_kernel p g.laid_out.formed (trees_are_kernels_lem g.program.body) in
    record {
      words = c.requires.words;
      differ = wires-differ g p wires_differ_lem codes c.requires.graph;
      plain = equations-plain g p reads_are_edges_lem codes c.requires.graph;
      system = c.in_ok-system.ensures;
    }

use Rattle.std.proofs.lemmas.Result.{err_from_is_err_and}
use Rattle.est_kernel.specs.Plain.{program_of}
use Rattle.cec_compile.proofs.Joined.{built_is, copy_refused}
use Rattle.cec_compile.proofs.graphs.built_graph.Goals as goal

pub returns-in_err-live-clause-refuses : goal.returns-in_err-live-clause-refuses
returns-in_err-live-clause-refuses c =
    let p = err_from_is_err_and c.from_residual.result c.from_residual.ensures.1 in
    rw (p.1, p.2) (copy_refused (program_of c.args.analysed.program) c.in_err-live.field-0.0 c.in_err-live.ensures.fault)

pub returns-clause-built : goal.returns-clause-built
returns-clause-built c =
    built_is c.in_ok-graph.graph (program_of c.args.analysed.program) c.requires.formed c.requires.names c.requires.no_loop c.in_ok-live.ensures.few
    c.in_ok-graph.ensures.graph

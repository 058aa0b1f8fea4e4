use Rattle.std.proofs.Common.{◌∙◌, sym, ap, subst}
use Rattle.std.specs.Prelude.{is_some}
use Rattle.est_kernel.specs.Plain.{program_of}
use Rattle.cec_compile.specs.Compiling.{IsCompiled}
use Rattle.cec_compile.specs.WireGroups.{is_shared}
use Rattle.cec_compile.proofs.Joined.{own_graph, own_ranked, compiled_stands}
use Rattle.cec_compile.proofs.passes.compile_unshared.Goals as goal

pub compile_graph-requires : goal.compile_graph-requires
compile_graph-requires g c =
    let s = c.in_ok-found.ensures.compiles in
    let found = c.in_ok-found.found in
    own_ranked found (program_of found.graph.program) (own_graph found s.program s.graphed)

pub returns-clause-compiles : goal.returns-clause-compiles
returns-clause-compiles g c =
    let made = c.in_ok-compiled.compiled in
    let e = c.in_ok-compiled.ensures in
    compiled_stands _ _ c.in_ok-found.found made c.in_ok-found.ensures.compiles (ap (λ graph. program_of graph.program) e.graph)
    (subst (λ graph. IsCompiled made (program_of graph.program)) (sym e.graph) e.compiled)

pub returns-clause-own : goal.returns-clause-own
returns-clause-own g c = ap is_shared c.in_ok-compiled.ensures.graph ∙ ap is_some c.in_ok-found.ensures.compiles.graphed.graph.own

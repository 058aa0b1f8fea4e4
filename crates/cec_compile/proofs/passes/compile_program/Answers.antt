use Rattle.std.proofs.Common.{◌∙◌, sym, subst}
use Rattle.est_kernel.specs.Plain.{program_of}
use Rattle.cec_compile.specs.Compiling.{IsCompiled}
use Rattle.cec_compile.specs.GraphsMade.{IsRanked}
use Rattle.cec_compile.specs.WireGroups.{SharesWires, is_shared}
use Rattle.cec_compile.proofs.Joined.{own_graph}
use Rattle.cec_compile.proofs.passes.compile_program.Goals as goal

pub shared_where_possible-requires : goal.shared_where_possible-requires
shared_where_possible-requires g c = own_graph c.in_ok-found.found (program_of c.args.analysed.program) c.in_ok-found.ensures.graphed

pub compile_graph-requires : goal.compile_graph-requires
compile_graph-requires g c =
    let e = c.in_ok-shared.ensures in
    subst (IsRanked c.in_ok-shared.shared) (sym e.program) e.ranked

pub returns-clause-compiled : goal.returns-clause-compiled
returns-clause-compiled g c =
    subst (IsCompiled c.in_ok-compiled.compiled) (c.in_ok-shared.ensures.program ∙ c.in_ok-found.ensures.graphed.graph.program)
    c.in_ok-compiled.ensures.compiled

pub returns-clause-shares : goal.returns-clause-shares
returns-clause-shares g c =
    let e = c.in_ok-shared.ensures in
    subst (λ graph. SharesWires (program_of graph.program) (is_shared graph)) (sym c.in_ok-compiled.ensures.graph)
    (subst (λ p. SharesWires p (is_shared c.in_ok-shared.shared.graph)) (sym e.program) e.shares)

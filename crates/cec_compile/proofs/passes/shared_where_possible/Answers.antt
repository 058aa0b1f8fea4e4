use Rattle.std.proofs.Common.{◌≡◌, sym, ap, subst}
use Rattle.est_kernel.specs.Plain.{program_of}
use Rattle.est_kernel.proofs.Exports.{trees_are_kernels_lem}
use Rattle.grc_share.specs.SharedGraphForms.{IsSharedOrFull}
use Rattle.cec_compile.specs.GraphsMade.{IsRanked}
use Rattle.cec_compile.specs.WireGroups.{SharesWires, is_shared}
use Rattle.cec_compile.specs.declared.passes.Graphed.{Graphed}
use Rattle.cec_compile.proofs.Joined.{own_ranked, own_shares, shared_rank, shared_ranked, shared_shares}
use Rattle.cec_compile.proofs.passes.shared_where_possible.Goals as goal

pub returns-in-Shared-clause-ranked : goal.returns-in-Shared-clause-ranked
returns-in-Shared-clause-ranked c =
    let given = c.args.found in
    let p = program_of given.graph.program in
    let is = subst (IsSharedOrFull given.graph) c.in-Shared.is c.in_ok-shared.ensures.found in
    let ranked = shared_rank p c.in-Shared.shared c.shared_ranks_go_up.ensures (trees_are_kernels_lem given.graph.program.body)
    c.requires.formed.body is in
    subst (λ (g : Graphed). IsRanked g p) (sym c.ranked_of.ensures)
    (shared_ranked given c.in-Shared.shared c.requires ranked c.shared_orders_are_reading_orders.ensures is)

pub returns-in-Shared-clause-shares : goal.returns-in-Shared-clause-shares
returns-in-Shared-clause-shares c =
    let given = c.args.found in
    let p = program_of given.graph.program in
    let is = subst (IsSharedOrFull given.graph) c.in-Shared.is c.in_ok-shared.ensures.found in
    subst (λ (g : Graphed). SharesWires p (is_shared g.graph)) (sym c.ranked_of.ensures) (shared_shares p c.in-Shared.shared is
    (shared_rank p c.in-Shared.shared c.shared_ranks_go_up.ensures (trees_are_kernels_lem given.graph.program.body) c.requires.formed.body is))

pub returns-in-Shared-clause-program : goal.returns-in-Shared-clause-program
returns-in-Shared-clause-program c =
    let given = c.args.found in
    let is = subst (IsSharedOrFull given.graph) c.in-Shared.is c.in_ok-shared.ensures.found in
    subst (λ (g : Graphed). program_of g.graph.program ≡ program_of given.graph.program) (sym c.ranked_of.ensures) is.program

pub returns-in-Full-clause-ranked : goal.returns-in-Full-clause-ranked
returns-in-Full-clause-ranked c =
    let given = c.args.found in
    let p = program_of given.graph.program in
    let is = subst (IsSharedOrFull given.graph) c.in-Full.is c.in_ok-shared.ensures.found in
    subst (λ g. IsRanked (record { graph = g; edges = given.edges; ranks = given.ranks }) p) (sym is.0) (own_ranked given p c.requires)

pub returns-in-Full-clause-shares : goal.returns-in-Full-clause-shares
returns-in-Full-clause-shares c =
    let given = c.args.found in
    let p = program_of given.graph.program in
    let is = subst (IsSharedOrFull given.graph) c.in-Full.is c.in_ok-shared.ensures.found in
    subst (λ g. SharesWires p (is_shared g)) (sym is.0) (own_shares given p _ c.requires is.1)

use Rattle.std.proofs.Common.{sym, ◌∙◌, subst, map, length, arith}
use Rattle.base_digraph.specs.Walks.{JoinsNodes}
use Rattle.run_steps.specs.Order.{edges_from}
use Rattle.base_digraph.proofs.Exports.{walk-within}
use Rattle.run_steps.proofs.EquationEdges.{edges-join-of}
use Rattle.run_steps.proofs.order.evaluation_order.Goals as goal

pub wide_ranks_or_cycle-requires : goal.wide_ranks_or_cycle-requires
wide_ranks_or_cycle-requires c =
    let joins = edges-join-of (λ r. r.items) c.args.first c.args.reads.now c.requires.within in
    rw (c.deref.ensures.value, c.in_ok-edges.ensures) joins

pub names_along-requires : goal.names_along-requires
names_along-requires c =
    let joins = edges-join-of (λ r. r.items) c.args.first c.args.reads.now c.requires.within in
    let edges = c.deref.ensures.value ∙ c.in_ok-edges.ensures in
    let h = rw (c.in-Cycle.is, edges) at c.in_ok-ranking.ensures.found in
    let walk = walk-within (length c.args.reads.now) (edges_from c.args.first 0 (map (λ r. r.items) c.args.reads.now)) c.in-Cycle.walk.items joins h in
    rw (c.deref-in-Cycle.ensures.value) (λ k d low. omega (arith, walk k d low, c.requires.each_name))

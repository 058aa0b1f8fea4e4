use Rattle.std.proofs.Common.{◌∙◌, ◌<◌, All, sym, subst, arith}
use Rattle.base_digraph.specs.Answers.{IsWideAnswer}
use Rattle.base_digraph.specs.Walks.{IsClosedWalk}
use Rattle.base_digraph.specs.declared.wide.WideRanksOrCycle.TheVariants.{Cycle}
use Rattle.base_digraph.proofs.Rising.{walk-within}
use Rattle.base_digraph.proofs.ranking.ranks_or_cycle.Goals as goal

pub narrowed-requires-in-Cycle : goal.narrowed-requires-in-Cycle
narrowed-requires-in-Cycle c =
    let edges = c.args.edges.now in
    let walk = c.in-Cycle.walk.items in
    let nodes = c.deref.ensures.value ∙ c.in_ok-pairs.ensures in
    let found : IsWideAnswer c.args.count c.deref.result.now (Cycle c.in-Cycle.walk) =
    subst (IsWideAnswer c.args.count c.deref.result.now) c.in-Cycle.is c.in_ok-ranking.ensures.found in
    let within = walk-within c.args.count edges walk c.requires (subst (λ pairs. IsClosedWalk pairs walk) nodes found) in
    let few = c.ranges.count.fits in
    subst (All (λ n. n < 4294967296)) (sym c.deref-in-Cycle.ensures.value) (λ k d low. omega (arith, within k d low, few))

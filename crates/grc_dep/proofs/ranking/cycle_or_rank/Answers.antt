use Rattle.std.proofs.Common.{◌∙◌, ap, subst}
use Rattle.base_digraph.specs.Walks.{AreRanks}
use Rattle.base_digraph.specs.Answers.{IsAnswer}
use Rattle.base_digraph.specs.declared.ranking.RanksOrCycle.TheVariants.{Ranks}
use Rattle.grc_dep.specs.Cycles.{numbered}
use Rattle.grc_dep.proofs.Numbers.{numbered_join, ranks_along}
use Rattle.grc_dep.proofs.ranking.cycle_or_rank.Goals as goal

pub ranks_or_cycle-requires : goal.ranks_or_cycle-requires
ranks_or_cycle-requires c =
    let edges = c.args.edges.now in
    rw (c.deref-2.ensures.value, c.in_ok-pairs.ensures, c.deref.ensures.value) (numbered_join edges.count edges.pairs.items edges.are_edges)

pub returns-in-Ranks-clause-found : goal.returns-in-Ranks-clause-found
returns-in-Ranks-clause-found c =
    let edges = c.args.edges.now in
    let nodes = c.deref-2.ensures.value ∙ c.in_ok-pairs.ensures ∙ ap numbered c.deref.ensures.value in
    let found : IsAnswer edges.count c.deref-2.result.now (Ranks c.in-Ranks.ranking) =
    subst (IsAnswer edges.count c.deref-2.result.now) c.in-Ranks.is c.in_ok-ranking.ensures.found in
    ranks_along edges.count edges.pairs.items c.in-Ranks.ranking.ranks.items
    (subst (λ pairs. AreRanks edges.count pairs c.in-Ranks.ranking.ranks.items) nodes found.0)

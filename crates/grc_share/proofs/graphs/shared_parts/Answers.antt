use Rattle.std.proofs.Common.{sym, subst}
use Rattle.est_kernel.specs.Plain.{program_of}
use Rattle.grc_graph.specs.WireOrders.{AreRanks}
use Rattle.grc_share.specs.SharedNumbers.{IsSharedAnswer}
use Rattle.grc_share.proofs.SharedPairing.{ranks-along}
use Rattle.grc_share.proofs.graphs.shared_parts.Goals as goal

pub returns-in_ok-parts-in-Ranks-clause-found : goal.returns-in_ok-parts-in-Ranks-clause-found
returns-in_ok-parts-in-Ranks-clause-found c =
    let g = c.args.graph.now in
    let p = program_of g.program in
    let found = subst (IsSharedAnswer p) c.in-Ranks.is c.in_ok-walk.ensures.found in
    let made = c.in_ok-edges-in-Ranks.ensures in
    let pairs = c.in_ok-edges-in-Ranks.edges.pairs.items in
    let ranks = c.in-Ranks.ranking.ranks.items in
    record {
      graph = c.in_ok-parts-in-Ranks.ensures;
      count = made.count;
      edges = made.edges;
      ranks = subst (λ n. AreRanks n pairs ranks) (sym made.count) (ranks-along p pairs ranks made.edges found.0);
    }

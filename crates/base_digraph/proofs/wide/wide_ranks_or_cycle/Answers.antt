use Rattle.std.proofs.Common.{ℕ, ◌<◌, [], arith}
use Rattle.std.proofs.lemmas.Bool.{false≢true}
use Rattle.base_digraph.specs.Searches.{IsSearch}
use Rattle.base_digraph.proofs.Ends.{All-ranked, AreRanks-ended, IsOrderOf-ended, order-low}
use Rattle.base_digraph.proofs.Rising.{no_closed_walk}
use Rattle.base_digraph.proofs.wide.wide_ranks_or_cycle.Goals as goal

pub ranks_of-requires : goal.ranks_of-requires
ranks_of-requires c =
    let s = c.loop-root.search in
    let inv = c.loop-root.invariant in
    let ended : IsSearch c.args.count c.args.edges.now s.states.items s.rest.items [] s.order.items = rw inv.between at inv.search in
    rw c.deref-2.ensures.value (All-ranked c.args.count c.args.edges.now s.states.items s.rest.items s.order.items ended c.requires
    (λ node low. inv.met node (omega arith)))

pub returns-clause-found : goal.returns-clause-found
returns-clause-found c =
    let s = c.loop-root.search in
    let inv = c.loop-root.invariant in
    let ended : IsSearch c.args.count c.args.edges.now s.states.items s.rest.items [] s.order.items = rw inv.between at inv.search in
    let met = λ (node : ℕ) (low : node < c.args.count). inv.met node (omega arith) in
    rw (c.in_ok-ranks_of.ensures, c.deref-2.ensures.value) (
      AreRanks-ended c.args.count c.args.edges.now s.states.items s.rest.items s.order.items ended c.requires met,
      IsOrderOf-ended c.args.count c.args.edges.now s.states.items s.rest.items s.order.items ended c.requires met,
      order-low c.args.count c.args.edges.now s.states.items s.rest.items s.order.items ended c.requires met,
    )

pub returns-clause-cyclic : goal.returns-clause-cyclic
returns-clause-cyclic c =
    let s = c.loop-root.search in
    let inv = c.loop-root.invariant in
    let ended : IsSearch c.args.count c.args.edges.now s.states.items s.rest.items [] s.order.items = rw inv.between at inv.search in
    let met = λ (node : ℕ) (low : node < c.args.count). inv.met node (omega arith) in
    let ranks = AreRanks-ended c.args.count c.args.edges.now s.states.items s.rest.items s.order.items ended c.requires met in
    (λ e. absurd (false≢true e), λ w. absurd (no_closed_walk c.args.count c.args.edges.now _ ranks w.0 w.1))

use Rattle.std.proofs.Common.{◌+◌, ◌-◌, ◌≤◌, ◌∙◌, drop, slice_index, take, arith, rules}
use Rattle.grc_order.specs.Runs.{AreBegins}
use Rattle.grc_graph.specs.WireOrders.{WireEdge}
use Rattle.std.proofs.Common.{ℕ, ◌<◌, List}
use Rattle.grc_order.proofs.RunLaws.{edges_from-run, run-ordered, splits-above}
use Rattle.grc_order.proofs.edge_runs.edges_between.Goals as goal

ordered : (count v : ℕ) (pairs : List WireEdge) (begins : List ℕ) → AreBegins count pairs begins → v < count → slice_index begins v ≤ slice_index begins (v + 1)
ordered count v pairs begins b low =
    run-ordered v pairs (slice_index begins v) (slice_index begins (v + 1)) (b.within v (omega arith)) (b.within (v + 1) (omega arith))
    (b.splits v (omega arith)) (splits-above v pairs _ (b.splits (v + 1) (omega arith)))

pub slice_bounds-result-count : goal.slice_bounds-result-count
slice_bounds-result-count c = ordered _ _ _ _ c.requires.begins c.requires.low

pub slice_bounds-result-start : goal.slice_bounds-result-start
slice_bounds-result-start c =
    let rises = ordered _ _ _ _ c.requires.begins c.requires.low in
    search (rules, rises)

pub returns : goal.returns
returns c =
    let v = c.args.wire.0 in
    let b = c.requires.begins in
    let begins = c.args.begins.now in
    let a = slice_index begins v in
    let e = slice_index begins (v + 1) in
    (λ i. take (e - a) (drop a (c.as_slice-pairs.ensures.value i)))
    ∙ edges_from-run v c.args.edges.now.pairs.items a e (b.within v (omega arith)) (b.within (v + 1) (omega arith)) (b.splits v (omega arith))
    (splits-above v c.args.edges.now.pairs.items _ (b.splits (v + 1) (omega arith)))

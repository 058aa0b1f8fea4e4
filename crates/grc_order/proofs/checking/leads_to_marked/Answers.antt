use Rattle.std.proofs.Common.{◌≤◌, length, arith, refl}
use Rattle.std.proofs.lemmas.Bool.{false≢true, both_ways}
use Rattle.grc_order.proofs.CheckLaws.{from_in_range}
use Rattle.grc_order.proofs.checking.leads_to_marked.Goals as goal

pub bounds-marks-edge : goal.bounds-marks-edge
bounds-marks-edge c =
    let run = c.edges_from-edge-items.ensures in
    let low = rw run at c.loop-edge-test.true in
    rw run (omega
    (arith, from_in_range c.args.edges.now.count c.args.edges.now.pairs.items c.args.wire.0 c.loop-edge.edge-index c.args.edges.now.are_edges low))

pub returns-then-marks-edge : goal.returns-then-marks-edge
returns-then-marks-edge c =
    let run = c.edges_from-edge-items.ensures in
    (λ e. (c.loop-edge.edge-index, rw run at c.loop-edge-test.true, rw run at c.if-marks-edge.true), λ found. refl)

pub returns : goal.returns
returns c =
    let run = c.edges_from-edge-items.ensures in
    let over : length c.edges_from-edge-items.result.now ≤ c.loop-edge.edge-index = omega arith in
    let all = rw run at over in
    (λ e. absurd (false≢true e), λ found. absurd (both_ways _ (c.loop-edge.invariant found.0 (let low = found.1 in omega arith)) found.2))

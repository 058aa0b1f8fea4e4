use Rattle.std.proofs.Common.{◌≡◌, ◌+◌, ◌-◌, ◌<◌, ◌≤◌, length, slice_index, arith}
use Rattle.std.proofs.lemmas.List.{get_or_read, drop_all}
use Rattle.grc_graph.specs.WireOrders.{edge_at}
use Rattle.grc_order.specs.Schedules.{edges_from}
use Rattle.grc_order.proofs.Releasing.{target_low, release-some, release-waits, release-ready}
use Rattle.grc_order.proofs.schedule.Schedule.release.Goals as goal
use Rattle.grc_order.proofs.schedule.Schedule.release.Goals.{then-left-eq0+in_ok-put_in_front, else-left-eq0}

pub index-requires : goal.index-requires
index-requires c =
    let run = c.edges_between-edge-items.ensures in
    let inv = c.loop-edge.invariant in
    rw run (let low = rw run at c.loop-edge-test.true in omega
    (arith, target_low _ _ _ _ _ _ _ c.args.edges.now.are_edges inv.schedule low, inv.schedule.each_wire))

pub index_mut-requires : goal.index_mut-requires
index_mut-requires c =
    let run = c.edges_between-edge-items.ensures in
    let inv = c.loop-edge.invariant in
    rw run (let low = rw run at c.loop-edge-test.true in omega
    (arith, target_low _ _ _ _ _ _ _ c.args.edges.now.are_edges inv.schedule low, inv.schedule.each_wire))

pub overflow_sub-left : goal.overflow_sub-left
overflow_sub-left c =
    let inv = c.loop-edge.invariant in
    let run = c.edges_between-edge-items.ensures in
    let edges = c.args.edges.now.are_edges in
    let low = rw run at c.loop-edge-test.true in
    let e = edge_at (edges_from c.args.wire.0 c.args.edges.now.pairs.items) c.loop-edge.edge-index in
    let in_range : e.1.0 < length c.loop-edge.self.waiting.items = omega (arith, target_low _ _ _ _ _ _ _ edges inv.schedule low, inv.schedule.each_wire) in
    let is = get_or_read c.loop-edge.self.waiting.items e.1.0 c.index.result.now in_range (rw run at c.index.ensures) 0 in
    omega (arith, release-some _ _ _ _ _ _ _ edges inv.schedule low)

pub loop-edge-preserved : goal.loop-edge-preserved
loop-edge-preserved c =
    let inv = c.loop-edge.invariant in
    let run = c.edges_between-edge-items.ensures in
    let edges = c.args.edges.now.are_edges in
    let low = rw run at c.loop-edge-test.true in
    let e = edge_at (edges_from c.args.wire.0 c.args.edges.now.pairs.items) c.loop-edge.edge-index in
    let in_range : e.1.0 < length c.loop-edge.self.waiting.items = omega (arith, target_low _ _ _ _ _ _ _ edges inv.schedule low, inv.schedule.each_wire) in
    let is = get_or_read c.loop-edge.self.waiting.items e.1.0 c.index.result.now in_range (rw run at c.index.ensures) 0 in
    let some = release-some _ _ _ _ _ _ _ edges inv.schedule low in
    let less : c.index.result.now - 1 + 1 ≡ slice_index c.loop-edge.self.waiting.items e.1.0 = omega arith in
    elim c.if-left-eq0.branch [
      | then-left-eq0+in_ok-put_in_front w ↦ rw (w.self-is, run) (record {
        schedule = release-ready _ _ _ _ _ _ _ edges inv.schedule low _ less w.if-left-eq0.true _ (rw run at w.in_ok-put_in_front.ensures);
        placed = inv.placed;
      })
      | else-left-eq0 w ↦ rw (w.self-is, run) (record {
        schedule = release-waits _ _ _ _ _ _ _ edges inv.schedule low _ less w.if-left-eq0.false;
        placed = inv.placed;
      })
    ]

pub returns-clause-schedule : goal.returns-clause-schedule
returns-clause-schedule c =
    let run = c.edges_between-edge-items.ensures in
    let over : length c.edges_between-edge-items.result.now ≤ c.loop-edge.edge-index = omega arith in
    let none = drop_all c.loop-edge.edge-index (edges_from c.args.wire.0 c.args.edges.now.pairs.items) (rw run at over) in
    rw none at c.loop-edge.invariant.schedule

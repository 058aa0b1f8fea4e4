use Rattle.std.proofs.Common.{◌+◌, ◌-◌, length, arith}
use Rattle.est_dismantle.proofs.MeasuredNodes.{along, events-none, events-last, events-step}
use Rattle.est_dismantle.proofs.measured_events.+event_extents.Goals as goal

pub events_extent-returns-then-count-eq0 : goal.events_extent-returns-then-count-eq0
events_extent-returns-then-count-eq0 t c = along _ _ _ (events-none c.args.parts.now c.if-count-eq0.true) c.leaf.ensures

pub events_extent-loop-behind-init : goal.events_extent-loop-behind-init
events_extent-loop-behind-init t c =
    let n = length c.args.parts.now in
    along _ _ _ (events-last c.args.parts.now (n - 1) (n - 1) c.index-parts-count.result (omega arith) (omega arith) c.index-parts-count.is)
    c.event_extent-whole.ensures

pub events_extent-loop-behind-preserved : goal.events_extent-loop-behind-preserved
events_extent-loop-behind-preserved t c =
    let n = length c.args.parts.now in let behind = c.loop-behind.behind in let x = c.index-parts-count-in-loop-behind.result in
    along _ _ _
    (events-step c.args.parts.now (n - 1 - behind) (n - (behind + 1)) (n - behind) x (omega arith) (omega arith)
    (omega arith) c.index-parts-count-in-loop-behind.is)
    (c.joined-whole.ensures _ _ c.event_extent.ensures c.loop-behind.invariant)

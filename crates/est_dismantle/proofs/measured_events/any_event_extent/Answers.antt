use Rattle.std.proofs.Common.{◌+◌, ◌-◌, length, arith, sym}
use Rattle.est_dismantle.proofs.MeasuredNodes.{along, event_of, case_events-none, case_events-last, case_events-step}
use Rattle.est_dismantle.proofs.measured_events.any_event_extent.Goals as goal

pub returns-then-count-eq0 : goal.returns-then-count-eq0
returns-then-count-eq0 c = along _ _ _ (case_events-none c.args.cases.now c.if-count-eq0.true) c.leaf.ensures

pub loop-behind-init : goal.loop-behind-init
loop-behind-init c =
    let n = length c.args.cases.now in
    along _ _ _ (case_events-last c.args.cases.now (n - 1) (n - 1) c.index-cases-count.result (omega arith) (omega arith) c.index-cases-count.is)
    (event_of _ _ _ (sym c.index-cases-count.is) c.event_extent-whole.ensures)

pub loop-behind-preserved : goal.loop-behind-preserved
loop-behind-preserved c =
    let n = length c.args.cases.now in let behind = c.loop-behind.behind in let x = c.index-cases-count-in-loop-behind.result in
    along _ _ _
    (case_events-step c.args.cases.now (n - 1 - behind) (n - (behind + 1)) (n - behind) x (omega arith) (omega arith)
    (omega arith) c.index-cases-count-in-loop-behind.is)
    (c.joined-whole.ensures _ _ (event_of _ _ _ (sym c.index-cases-count-in-loop-behind.is) c.event_extent.ensures) c.loop-behind.invariant)

use Rattle.std.proofs.Common.{◌+◌, ◌-◌, length, arith, refl}
use Rattle.est_dismantle.proofs.MeasuredNodes.{along, node-Await_written, node-Present, node-Every, node-Repeat, node-Abort_written, node-AbortCase}
use Rattle.est_dismantle.proofs.MeasuredNodes.{node-Trap_written, parts-none, parts-last, parts-step, boxed, events_in, chosen_in, chosen-past, chosen-step}
use Rattle.est_dismantle.proofs.MeasuredNodes.{case-missing, case-written}
use Rattle.est_dismantle.proofs.measure.+measuring.Goals as goal

pub measure_form-returns-in-Present : goal.measure_form-returns-in-Present
measure_form-returns-in-Present t c =
    node-Present c.tested.result c.args.form.now c.in-Present.test c.in-Present.yes c.in-Present.no c.in-Present.is
    (c.tested.ensures _ _ _ c.event_extent.ensures c.measure_part.ensures c.measure_part-in-Present.ensures)

pub measure_form-returns-in-Every : goal.measure_form-returns-in-Every
measure_form-returns-in-Every t c =
    node-Every c.every.result c.args.form.now c.in-Every.delay c.in-Every.body c.in-Every.is
    (c.every.ensures _ (boxed _ _ _ c.deref-in-Every.ensures c.measure-in-Every.ensures))

pub measure_form-returns-in-Repeat : goal.measure_form-returns-in-Repeat
measure_form-returns-in-Repeat t c =
    node-Repeat c.copied.result c.args.form.now c.in-Repeat.count c.in-Repeat.field-1 c.in-Repeat.body c.in-Repeat.is
    (c.copied.ensures _ (boxed _ _ _ c.deref-in-Repeat.ensures c.measure-in-Repeat.ensures))

pub measure_form-returns-in-AbortCase : goal.measure_form-returns-in-AbortCase
measure_form-returns-in-AbortCase t c =
    node-AbortCase c.handled.result c.args.form.now c.in-AbortCase.body c.in-AbortCase.cases c.in-AbortCase.is
    (c.handled.ensures _ _ (c.aborted.ensures _ _ (events_in _ _ _ c.as_slice-in-AbortCase.ensures.value c.any_event_extent-any.ensures)
    (boxed _ _ _ c.deref-in-AbortCase.ensures c.measure-in-AbortCase.ensures))
    (chosen_in _ _ _ _ c.as_slice-in-AbortCase-2.ensures.value (c.measure_cases-chosen.ensures _ c.leaf-in-AbortCase.ensures)))

pub measure_case-returns-in-None : goal.measure_case-returns-in-None
measure_case-returns-in-None t c = along _ _ _ (case-missing c.args.case.now c.in-None.is) c.leaf.ensures

pub measure_case-returns-in-Some : goal.measure_case-returns-in-Some
measure_case-returns-in-Some t c = along _ _ _ (case-written c.args.case.now c.in-Some.statement c.in-Some.is) c.measure.ensures

pub measure_parts-returns-then-count-eq0 : goal.measure_parts-returns-then-count-eq0
measure_parts-returns-then-count-eq0 t c = along _ _ _ (parts-none c.args.parts.now c.if-count-eq0.true) c.leaf.ensures

pub measure_parts-loop-behind-init : goal.measure_parts-loop-behind-init
measure_parts-loop-behind-init t c =
    let n = length c.args.parts.now in
    along _ _ _ (parts-last c.args.parts.now (n - 1) (n - 1) c.index-parts-count.result (omega arith) (omega arith) c.index-parts-count.is)
    c.measure-whole.ensures

pub measure_parts-loop-behind-preserved : goal.measure_parts-loop-behind-preserved
measure_parts-loop-behind-preserved t c =
    let n = length c.args.parts.now in let behind = c.loop-behind.behind in let x = c.index-parts-count-in-loop-behind.result in
    along _ _ _
    (parts-step c.args.parts.now (n - 1 - behind) (n - (behind + 1)) (n - behind) x (omega arith) (omega arith)
    (omega arith) c.index-parts-count-in-loop-behind.is)
    (c.joined-whole.ensures _ _ c.measure.ensures c.loop-behind.invariant)

pub measure_cases-loop-behind-init : goal.measure_cases-loop-behind-init
measure_cases-loop-behind-init t c r h =
    along _ _ _ (chosen-past c.args.cases.now (length c.args.cases.now - 0) r (omega arith)) h

pub measure_cases-loop-behind-preserved : goal.measure_cases-loop-behind-preserved
measure_cases-loop-behind-preserved t c r h =
    let n = length c.args.cases.now in let behind = c.loop-behind.behind in
    along _ _ _
    (chosen-step c.args.cases.now (n - 1 - behind) (n - (behind + 1)) (n - behind) c.index-cases-count.result r (omega arith) (omega arith)
    (omega arith) c.index-cases-count.is)
    (c.tested-whole.ensures _ _ _ c.event_extent.ensures c.measure_case.ensures (c.loop-behind.invariant r h))

pub measure_await-returns-in-Some : goal.measure_await-returns-in-Some
measure_await-returns-in-Some t c =
    node-Await_written c.joined.result _ c.args.delay.now c.args.rest.now c.in-Some.rest refl c.in-Some.is
    (c.joined.ensures _ _ c.awaited_delay-in-Some.ensures (boxed _ _ _ c.deref.ensures c.measure.ensures))

pub measure_form-returns-in-Some : goal.measure_form-returns-in-Some
measure_form-returns-in-Some t c =
    node-Abort_written c.handled_abortion.result c.args.form.now c.in-Abort.body c.in-Abort.delay c.in-Abort.rest c.in-Some.rest c.in-Abort.is
    c.in-Some.is
    (c.handled_abortion.ensures _ _ (boxed _ _ _ c.deref-in-Some.ensures c.measure-in-Some.ensures)
    (boxed _ _ _ c.deref-in-Some-2.ensures c.measure-in-Some-2.ensures))

pub measure_form-returns-in-Some-handler : goal.measure_form-returns-in-Some-handler
measure_form-returns-in-Some-handler t c =
    node-Trap_written c.handled-in-Some-handler.result c.args.form.now c.in-Trap.body c.in-Trap.handler c.in-Some-handler.handler c.in-Trap.is
    c.in-Some-handler.is
    (c.handled-in-Some-handler.ensures _ _
    (c.joined-in-Some-handler.ensures _ _ (boxed _ _ _ c.deref-in-Some-handler.ensures c.measure-in-Some-handler.ensures) c.leaf-in-Some-handler.ensures)
    (boxed _ _ _ c.deref-in-Some-handler-2.ensures c.measure-in-Some-handler-2.ensures))

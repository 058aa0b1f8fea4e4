use Rattle.std.proofs.Common.{arith, refl}
use Rattle.std.proofs.lemmas.List.{take_all}
use Rattle.grc_order.proofs.Starting.{IsReadyOf-waits, IsReadyOf-ready}
use Rattle.grc_order.proofs.schedule.wires_that_wait_for_none.Goals as goal
use Rattle.grc_order.proofs.schedule.wires_that_wait_for_none.Goals.{then-waiting-wire-eq0+in_ok-push, else-waiting-wire-eq0}

pub loop-wire-preserved : goal.loop-wire-preserved
loop-wire-preserved c =
    let waiting = c.args.waiting.now in
    let k = c.loop-wire.wire in
    elim c.if-waiting-wire-eq0.branch [
      | then-waiting-wire-eq0+in_ok-push w ↦ rw (w.ready-is, w.in_ok-push.ensures.items)
          (IsReadyOf-ready waiting _ k (omega arith) c.loop-wire.invariant _ refl w.if-waiting-wire-eq0.true)
      | else-waiting-wire-eq0 w ↦ rw w.ready-is (IsReadyOf-waits waiting _ k (omega arith) c.loop-wire.invariant w.if-waiting-wire-eq0.false)
    ]

pub returns : goal.returns
returns c =
    let all = take_all c.loop-wire.wire c.args.waiting.now (omega arith) in
    rw all at c.loop-wire.invariant

use Rattle.std.proofs.Common.{take}
use Rattle.grc_order.specs.Schedules.{IsReadyOf}
use Rattle.grc_order.proofs.schedule.wires_that_wait_for_none.Given as goal

abbrev pub invariant-loop-wire : goal.invariant-loop-wire
invariant-loop-wire l = IsReadyOf (take l.wire l.waiting) l.ready.items

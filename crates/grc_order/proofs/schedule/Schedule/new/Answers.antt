use Rattle.grc_order.proofs.Placing.{IsSchedule-start}
use Rattle.grc_order.proofs.schedule.Schedule.new.Goals as goal

pub returns-clause-schedule : goal.returns-clause-schedule
returns-clause-schedule c =
    let ready = rw c.deref.ensures.value at c.in_ok-ready.ensures in
    rw c.in_ok-placed.ensures.items (IsSchedule-start _ _ _ _ c.in_ok-waiting.ensures.each c.in_ok-waiting.ensures.counts ready)

pub wires_that_wait_for_none-requires : goal.wires_that_wait_for_none-requires
wires_that_wait_for_none-requires c = rw c.deref.ensures.value c.in_ok-waiting.ensures.each

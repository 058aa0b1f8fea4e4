use Rattle.std.proofs.Common.{arith}
use Rattle.grc_order.proofs.Placing.{IsSchedule-place, v_low}
use Rattle.grc_order.proofs.schedule.Schedule.place_next.Goals as goal

pub release-requires-clause-schedule : goal.release-requires-clause-schedule
release-requires-clause-schedule g c =
    rw (c.swap_remove-wire.ensures.items, c.in_ok-push.ensures.items)
    (IsSchedule-place _ _ _ _ _ c.requires.schedule c.args.edges.now.are_edges _ _
    (let some = c.requires.some_ready in omega (arith, c.args.self.now.ready.ok.0)) c.swap_remove-wire.ensures.value)

pub release-requires-clause-low : goal.release-requires-clause-low
release-requires-clause-low g c =
    v_low _ _ _ _ _ c.requires.schedule c.args.edges.now.are_edges _ _
    (let some = c.requires.some_ready in omega (arith, c.args.self.now.ready.ok.0)) c.swap_remove-wire.ensures.value

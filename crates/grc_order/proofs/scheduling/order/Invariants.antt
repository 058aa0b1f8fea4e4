use Rattle.std.proofs.Common.{◌≡◌, [], length}
use Rattle.grc_order.specs.Schedules.{IsScheduleOf}
use Rattle.grc_order.proofs.scheduling.order.Given as goal

abbrev pub invariant-loop : goal.invariant-loop
invariant-loop g l = record {
  schedule : IsScheduleOf l.edges [] l.schedule;
  placed : length l.schedule.placed.items ≡ l.counter;
}

use Rattle.std.proofs.Common.{◌≡◌, drop}
use Rattle.grc_order.specs.Schedules.{IsScheduleOf, edges_from}
use Rattle.grc_order.proofs.schedule.Schedule.release.Given as goal

abbrev pub invariant-loop-edge : goal.invariant-loop-edge
invariant-loop-edge l = record {
  schedule : IsScheduleOf l.edges (drop l.edge-index (edges_from l.fn.wire.0 l.edges.pairs.items)) l.self;
  placed : l.self.placed.items ≡ l.initial.self.placed.items;
}

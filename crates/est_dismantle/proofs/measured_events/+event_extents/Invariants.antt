use Rattle.std.proofs.Common.{◌-◌, drop}
use Rattle.est_dismantle.specs.Extents.{IsExtent}
use Rattle.est_dismantle.specs.FlatNodes.{events_measures}
use Rattle.est_dismantle.proofs.measured_events.+event_extents.Given as goal

abbrev pub invariant-events_extent-loop-behind : goal.invariant-events_extent-loop-behind
invariant-events_extent-loop-behind l = IsExtent l.whole (events_measures (drop (l.count - l.behind) l.parts))

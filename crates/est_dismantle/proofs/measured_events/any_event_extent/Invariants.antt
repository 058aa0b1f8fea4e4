use Rattle.std.proofs.Common.{◌-◌, drop}
use Rattle.est_dismantle.specs.Extents.{IsExtent}
use Rattle.est_dismantle.specs.FlatNodes.{case_events_measures}
use Rattle.est_dismantle.proofs.measured_events.any_event_extent.Given as goal

abbrev pub invariant-loop-behind : goal.invariant-loop-behind
invariant-loop-behind l = IsExtent l.whole (case_events_measures (drop (l.count - l.behind) l.cases))

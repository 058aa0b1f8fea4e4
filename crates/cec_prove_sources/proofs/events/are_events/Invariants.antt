use Rattle.std.proofs.Common.{drop, map}
use Rattle.base_types.specs.Items.{EachEvent}
use Rattle.base_types.specs.Relations.{relation_of}
use Rattle.net_never.specs.Reached.{events_of, items_of}
use Rattle.cec_prove_sources.specs.Devices.{IsEventOver}
use Rattle.cec_prove_sources.proofs.events.are_events.Given as goal

-- where those that are left are events, so are all
abbrev pub invariant-loop-event : goal.invariant-loop-event
invariant-loop-event l =
    EachEvent (IsEventOver l.width (map relation_of l.relations)) (items_of (events_of (drop l.event-index l.events)))
    → EachEvent (IsEventOver l.width (map relation_of l.relations)) (items_of (events_of l.events))

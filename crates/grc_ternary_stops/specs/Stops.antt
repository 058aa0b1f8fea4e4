-- Contract: the first of some events to which a program has no reaction.
use Rattle.std.specs.Prelude.{◌≡◌, ◌<◌, Bool, List, [], Vec, length, map, slice_index_or, take}
use Rattle.std.specs.declared.alloc.Global.{Global}
use Rattle.base_types.specs.Items.{Event}
use Rattle.est_kernel.specs.Plain.{Program}
use Rattle.grc_graph.specs.PlainWireNames.{wire_name_of}
use Rattle.grc_graph.specs.WireNames.{wire_name}
use Rattle.grc_graph.specs.Wires.{Wire}
use Rattle.grc_ternary.specs.TriRuns.{StopsAt}
use Rattle.grc_ternary_stops.specs.declared.stops.StuckEvent.{StuckEvent}

-- events without the capacities and pointers of vectors
abbrev pub plain_events : List (Vec Bool Global) → List (List Bool)
plain_events events = map (λ event. event.items) events

-- A program reacts to the events before a stop, and not to the one there. The wires with these names are unknown in the
-- least solution of its graph, and no others.
pub record IsStop (p : Program) (events : List (Vec Bool Global)) (stop : StuckEvent) : Type 0 where
  pub low : stop.before < length events
  pub unknown : List Wire
  pub stops : StopsAt p (map Event (take stop.before (plain_events events)))
      (slice_index_or (plain_events events) stop.before []) unknown
  pub named : map wire_name_of stop.wires.items ≡ map (wire_name p) unknown

use Rattle.std.proofs.Common.{◌≡◌, List, map, take}
use Rattle.base_types.specs.Items.{Event}
use Rattle.est_kernel.specs.Reactions.{Answer}
use Rattle.grc_ternary_stops.specs.Reaches.{Reaches}
use Rattle.grc_ternary_stops.specs.Stops.{plain_events}
use Rattle.grc_ternary_stops.proofs.stops.stop_place.Given as goal

-- the events so far led the runner to where it is
abbrev pub invariant-loop-place : goal.invariant-loop-place
invariant-loop-place l = record {
  led : (answers : List Answer) × Reaches l.initial.runner (map Event (take l.place (plain_events l.events))) answers l.runner;
  graph_stays : l.runner.graph ≡ l.initial.runner.graph;
}

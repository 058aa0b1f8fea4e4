use Rattle.std.proofs.Common.{◌≡◌, [], map, take, slice_index_or, ap, ◌∙◌}
use Rattle.base_types.specs.Items.{Event}
use Rattle.est_kernel.specs.Plain.{program_of}
use Rattle.grc_graph.specs.PlainGraphs.{names_of}
use Rattle.grc_graph.specs.WireNames.{wire_name}
use Rattle.grc_ternary_stops.specs.MarkedWires.{marked_of}
use Rattle.grc_ternary_stops.specs.Stops.{plain_events}
use Rattle.grc_ternary_stops.proofs.Reaching.{fresh_state, stopped}
use Rattle.grc_ternary_stops.proofs.stops.first_stop.Goals as goal

pub returns : goal.returns
returns c =
    let g = c.args.graph.now in
    let p = program_of g.program in
    let old = c.in_ok-runner.runner in
    let new = c.stop_place.new.runner in
    let events = plain_events c.args.events.now in
    let s = c.in-Some.ensures.stops in
    let stop = stopped g old s.last new (map Event (take c.in-Some.before events)) s.answers (slice_index_or events c.in-Some.before []) c.requires.graph
    c.in_ok-runner.ensures.graph (fresh_state old c.in_ok-runner.ensures.fresh) s.reaches s.stuck in
    record {
      low = s.low;
      unknown = marked_of new.unknown (names_of g);
      stops = stop.0;
      named = c.in_ok-wires-in-Some.ensures ∙ ap (λ m. map (wire_name p) (marked_of m (names_of g))) c.unknown.ensures;
    }

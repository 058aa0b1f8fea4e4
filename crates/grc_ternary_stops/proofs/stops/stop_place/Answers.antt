use Rattle.std.proofs.Common.{◌≡◌, ◌<◌, length, slice_index_or, List, [], Bool, ◌∙◌, subst, arith}
use Rattle.grc_ternary_run.specs.Runners.{IsStuck, Stays}
use Rattle.grc_ternary_stops.specs.Stops.{plain_events}
use Rattle.grc_ternary_stops.proofs.Reaching.{event-at, one-event-more, reaches_event}
use Rattle.grc_ternary_stops.proofs.stops.stop_place.Goals as goal

pub returns-in-Err-clause-stops : goal.returns-in-Err-clause-stops
returns-in-Err-clause-stops c =
    let events = c.args.events.now in
    let k = c.loop-place.place in
    let low : k < length events = omega arith in
    let is : c.deref.result.now ≡ slice_index_or (plain_events events) k [] = c.deref.ensures.value ∙ event-at events k c.index-events-place.result low
    c.index-events-place.is in
    record {
      low = low;
      answers = c.loop-place.invariant.led.0;
      last = c.loop-place.runner;
      reaches = c.loop-place.invariant.led.1;
      stuck = record {
        none = subst (λ (e : List Bool). IsStuck c.loop-place.runner e c.react.new.self) is c.in-Err.ensures.stuck;
        stays = subst (λ (e : List Bool). Stays c.loop-place.runner e c.react.new.self) is c.in-Err.ensures.stays;
      };
    }

pub loop-place-preserved : goal.loop-place-preserved
loop-place-preserved c =
    let events = c.args.events.now in
    let k = c.loop-place.place in
    let low : k < length events = omega arith in
    let is : c.deref.result.now ≡ slice_index_or (plain_events events) k [] = c.deref.ensures.value ∙ event-at events k c.index-events-place.result low
    c.index-events-place.is in
    let led = c.loop-place.invariant.led in
    let one = reaches_event c.loop-place.runner c.react.new.self c.deref.result.now c.in_default.field-0
    (record { reacts = c.in_default.ensures.reacts; steps = c.in_default.ensures.steps }) in
    record {
      led = (_, one-event-more c.args.runner.now c.loop-place.runner c.react.new.self events k c.deref.result.now led.0 _ low is led.1 one);
      graph_stays = c.in_default.ensures.reacts.graph ∙ c.loop-place.invariant.graph_stays;
    }

use Rattle.std.proofs.Common.{◌≡◌, ◌-◌, ◌++◌, take, length}
use Rattle.base_types.specs.Draws.{state_after}
use Rattle.est_gen.specs.Events.{event_from}
use Rattle.est_gen.proofs.events.fill_event.Given as goal

-- what is drawn, and what is still to draw, are the whole
abbrev pub invariant-loop-present : goal.invariant-loop-present
invariant-loop-present l = record {
  event : take l.present-index l.event ++ event_from (length l.fn.event - l.present-index) l.draw ≡ event_from (length l.fn.event) l.fn.draw;
  state : state_after (length l.fn.event - l.present-index) l.draw ≡ state_after (length l.fn.event) l.fn.draw;
}

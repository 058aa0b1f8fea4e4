use Rattle.std.proofs.Common.{◌+◌, ◌-◌, ◌<◌, ◌==◌, ◌∷◌, ◌++◌, ◌∙◌, length, take, set, ap, sym, arith}
use Rattle.base_types.specs.Draws.{next_state, state_after, drawn}
use Rattle.est_gen.specs.Events.{event_from}
use Rattle.est_gen.proofs.Written.{event-more, event_from-more, state_after-more}
use Rattle.est_gen.proofs.events.fill_event.Goals as goal

pub loop-present-preserved : goal.loop-present-preserved
loop-present-preserved c =
    let i = c.loop-present.present-index in
    let x = c.loop-present.draw in
    let event = c.loop-present.event in
    let n = length c.args.event.now in
    let low : i < n = omega arith in
    let state = c.next.ensures.state in
    let rest = event_from (n - (i + 1)) (next_state x) in
    record {
      event = ap (λ y. take (i + 1) (set event i (c.next.result == 0)) ++ event_from (n - (i + 1)) y) state
          ∙ event-more event i c.next.result rest (omega arith)
          ∙ ap (λ y. take i event ++ ((y == 0) ∷ rest)) (c.next.ensures.draw ∙ ap (λ s. drawn s 4) state)
          ∙ ap (λ y. take i event ++ y) (sym (event_from-more i n x low)) ∙ c.loop-present.invariant.event;
      state = ap (state_after (n - (i + 1))) state ∙ sym (state_after-more i n x low) ∙ c.loop-present.invariant.state;
    }

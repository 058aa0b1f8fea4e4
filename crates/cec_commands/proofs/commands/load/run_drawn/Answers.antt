use Rattle.std.proofs.Common.{◌∙◌}
use Rattle.cec_commands.proofs.DrawnRuns.{drawn-once}
use Rattle.cec_commands.proofs.commands.load.run_drawn.Goals as goal

pub loop-instant-preserved : goal.loop-instant-preserved
loop-instant-preserved g c =
    let so = c.loop-instant.invariant in
    let event = c.next_event-event.ensures in
    let one = c.with_reaction-shown.ensures in
    let other = c.with_reaction-called.ensures in
    record {
      first = drawn-once _ _ _ _ _ _ _ _ _ _ _ so.first event.event event.state one.more;
      second = drawn-once _ _ _ _ _ _ _ _ _ _ _ so.second event.event event.state other.more;
      each_input = one.inputs_stay ∙ so.each_input;
      each_output = one.outputs_stay ∙ so.each_output;
      each_given = other.inputs_stay ∙ so.each_given;
      each_shown = other.outputs_stay ∙ so.each_shown;
    }

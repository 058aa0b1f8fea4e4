use Rattle.std.proofs.Common.{◌∙◌, sym, ap, length, Ok, refl, arith}
use Rattle.run_trace_io.specs.Traces.{Reading}
use Rattle.run_trace_io.specs.Answers.{reading_of}
use Rattle.run_over_traces.specs.Becoming.{shown_until}
use Rattle.run_over_traces.proofs.Stepping.{step-as, so-far-nothing, so-far-more, run-ends, run-stops}
use Rattle.run_over_traces.proofs.running.run_trace.Goals as goal

pub loop-reader-init : goal.loop-reader-init
loop-reader-init g c = record {
  each_input = ap (λ (r : Reading). length r.inputs) c.new-reader.ensures ∙ c.requires.each_input;
  each_output = c.requires.each_output;
  so_far = λ last.
      so-far-nothing (shown_until g.R.Runner.shows g.R.Runner.becomes last) c.args.interface.outgoing.items (reading_of c.new-reader.result) c.args.runner.now
      (g.O.Sink.told c.args.out.now) (g.O.Sink.faults c.args.out.now);
}

pub loop-reader-preserved : goal.loop-reader-preserved
loop-reader-preserved g c =
    record {
      each_input = ap length c.run_item.ensures.given_stay ∙ c.loop-reader.invariant.each_input ∙ sym c.run_item.ensures.inputs_stay;
      each_output = c.loop-reader.invariant.each_output ∙ sym c.run_item.ensures.outputs_stay;
      so_far = λ last.
          let shows = shown_until g.R.Runner.shows g.R.Runner.becomes last in
          so-far-more shows _ _ _ _ _ _ _ _ _ _ _ _ _ (c.loop-reader.invariant.so_far last)
          (step-as shows _ _ _ _ _ _ _ _ _ c.deref.ensures.value (ap Ok c.in-Ok-true.field-0-test) (c.in-Ok-true.ensures.step last));
    }

pub loop-reader-smaller : goal.loop-reader-smaller
loop-reader-smaller g c =
    let new = c.run_item.new.runner in
    let step = step-as (shown_until g.R.Runner.shows g.R.Runner.becomes new) _ _ _ _ _ _ _ _ _ c.deref.ensures.value (ap Ok c.in-Ok-true.field-0-test)
    (c.in-Ok-true.ensures.step new) in
    omega (arith, step.stands.0, step.stands.1, ap length c.run_item.ensures.text_stays)

pub returns-in-Ok-false : goal.returns-in-Ok-false
returns-in-Ok-false g c =
    let new = c.run_item.new.runner in
    let shows = shown_until g.R.Runner.shows g.R.Runner.becomes new in
    let step = step-as shows _ _ _ _ _ _ _ _ _ c.deref.ensures.value (ap Ok c.in-Ok-false.field-0-test) (c.in-Ok-false.ensures.step new) in
    run-ends shows _ _ _ _ _ _ _ new (g.met.R.Runner.ends new, g.met.R.Runner.stays new) _ _ _ _ _ _ c.new-reader.ensures
    (c.loop-reader.invariant.so_far new) step

pub returns-in-Err : goal.returns-in-Err
returns-in-Err g c =
    let new = c.run_item.new.runner in
    let shows = shown_until g.R.Runner.shows g.R.Runner.becomes new in
    let step = step-as shows _ _ _ _ _ _ _ _ _ c.deref.ensures.value refl (c.in-Err.ensures.step new) in
    run-stops shows _ _ _ _ _ _ _ new (g.met.R.Runner.ends new, g.met.R.Runner.stays new) _ _ _ _ _ _ c.in-Err.fault c.new-reader.ensures
    (c.loop-reader.invariant.so_far new) step

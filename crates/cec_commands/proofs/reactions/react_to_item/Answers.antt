use Rattle.std.proofs.Common.{◌+◌, ◌∙◌, sym, ap, length, subst, Ok, Err, Some}
use Rattle.base_types.specs.SinkChanges.{change}
use Rattle.run_trace_io.specs.Answers.{AnswersGroup, reading_of}
use Rattle.run_trace_io.specs.Traces.{Reading}
use Rattle.run_trace_io.specs.declared.faults.TraceError.TheVariants as errors
use Rattle.run_over_traces.proofs.Exports.{Fits, fits-next, step-end, step-stop, untouched}
use Rattle.run_over_traces.specs.Steps.{IsStep}
use Rattle.run_over_traces.specs.declared.running.RunFault.TheVariants.{Trace}
use Rattle.cec_commands.specs.ReactionSteps.{IsReaction, RunnerShows}
use Rattle.cec_commands.proofs.RunnerReactions.{item_event, item_reset, item_stops}
use Rattle.cec_commands.proofs.reactions.react_to_item.Goals as goal

pub returns-in-Ok-None-clause-step : goal.returns-in-Ok-None-clause-step
returns-in-Ok-None-clause-step g c =
    let r = reading_of c.args.reader.now in
    let later = reading_of c.next.new.self in
    let a = subst (λ x. AnswersGroup r x later) (c.in-Ok-None.is ∙ ap Ok c.in-Ok-None.field-0-is) c.next.ensures in
    step-end RunnerShows c.args.names.now r later c.args.runner.now _ _ a.0 a.1

pub returns-in-Ok-Some-Reset-clause-step : goal.returns-in-Ok-Some-Reset-clause-step
returns-in-Ok-Some-Reset-clause-step g c =
    let r = reading_of c.args.reader.now in
    let later = reading_of c.next.new.self in
    let is = c.in-Ok-Some-Reset.is ∙ ap Ok (c.in-Ok-Some-Reset.field-0-is ∙ ap Some c.in-Ok-Some-Reset.field-0-0-is) in
    let a = subst (λ x. AnswersGroup r x later) is c.next.ensures in (
      item_reset c.args.names.now r later c.args.runner.now c.reset.new.self _ _ a.0 c.requires.within a.1 a.2 c.reset.ensures.resets,
      c.requires.counted ∙ sym (ap (λ (q : Reading). q.instant) a.2),
    )

pub react_to_event-requires-clause-each_input : goal.react_to_event-requires-clause-each_input
react_to_event-requires-clause-each_input g c =
    let r = reading_of c.args.reader.now in
    let later = reading_of c.next.new.self in
    let is = c.in-Ok-Some-React.is ∙ ap Ok (c.in-Ok-Some-React.field-0-is ∙ ap Some c.in-Ok-Some-React.field-0-0-is) in
    let a = subst (λ x. AnswersGroup r x later) is c.next.ensures in
    let fits = subst (Fits r.at (length r.text) (length r.inputs)) a.1 (fits-next r c.requires.within) in
    ap length c.bits.ensures ∙ fits.2 ∙ c.requires.each_input

pub returns-in-Ok-clause-step : goal.returns-in-Ok-clause-step
returns-in-Ok-clause-step g c =
    let r = reading_of c.args.reader.now in
    let later = reading_of c.next.new.self in
    let is = c.in-Ok-Some-React.is ∙ ap Ok (c.in-Ok-Some-React.field-0-is ∙ ap Some c.in-Ok-Some-React.field-0-0-is) in
    let a = subst (λ x. AnswersGroup r x later) is c.next.ensures in
    let s = change g.O.Sink.told g.O.Sink.faults c.args.out.now c.react_to_event.new.out in
    let came = subst (λ e. IsReaction c.args.names.now e c.args.instant c.args.runner.now c.react_to_event.new.runner s (Ok c.in-Ok.field-0)) c.bits.ensures
    c.in-Ok.ensures.reaction in (
      item_event c.args.names.now r later c.args.runner.now c.react_to_event.new.runner s c.in-Ok-Some-React.event a.0 came.0 c.requires.within a.1 a.2 a.3
          came.1 came.2,
      ap (λ n. n + 1) c.requires.counted ∙ sym (ap (λ (q : Reading). q.instant) a.3),
    )

pub returns-in-Ok-Some-React-clause-step : goal.returns-in-Ok-Some-React-clause-step
returns-in-Ok-Some-React-clause-step g c =
    let r = reading_of c.args.reader.now in
    let later = reading_of c.next.new.self in
    let is = c.in-Ok-Some-React.is ∙ ap Ok (c.in-Ok-Some-React.field-0-is ∙ ap Some c.in-Ok-Some-React.field-0-0-is) in
    let a = subst (λ x. AnswersGroup r x later) is c.next.ensures in
    let s = change g.O.Sink.told g.O.Sink.faults c.args.out.now c.react_to_event.new.out in
    let came = subst (λ e. IsReaction c.args.names.now e c.args.instant c.args.runner.now c.react_to_event.new.runner s (Err c.in-Err.fault)) c.bits.ensures
    c.in-Err.ensures.reaction in
    item_stops c.args.names.now r later c.args.runner.now c.react_to_event.new.runner s c.in-Ok-Some-React.event a.0 c.args.instant c.in-Err.fault
    c.requires.within a.1 a.2 a.3 c.requires.counted came

pub returns-in-Err-Fault-clause-step : goal.returns-in-Err-Fault-clause-step
returns-in-Err-Fault-clause-step g c =
    let r = reading_of c.args.reader.now in
    let later = reading_of c.next.new.self in
    let a = subst (λ x. AnswersGroup r x later) (c.in-Err-Fault.is ∙ ap Err c.in-Err-Fault.field-0-is) c.next.ensures in
    let told = g.O.Sink.told c.args.out.now in
    let faults = g.O.Sink.faults c.args.out.now in
    subst (λ f. IsStep RunnerShows c.args.names.now r later c.args.runner.now c.args.runner.now (untouched told faults) (Err (Trace f)))
    (sym c.in-Err-Fault.fault-is)
    (step-stop RunnerShows c.args.names.now r later c.args.runner.now told faults (errors.Fault c.in-Err-Fault.fault) a)

pub returns-clause-step : goal.returns-clause-step
returns-clause-step g c =
    let r = reading_of c.args.reader.now in
    let later = reading_of c.next.new.self in
    let a = subst (λ x. AnswersGroup r x later) (c.in-Err-NoMemory.is ∙ ap Err c.in-Err-NoMemory.field-0-is) c.next.ensures in
    step-stop RunnerShows c.args.names.now r later c.args.runner.now _ _ errors.NoMemory a

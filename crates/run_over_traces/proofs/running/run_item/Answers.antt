use Rattle.std.proofs.Common.{◌∙◌, sym, ap, length, subst, Ok, Err, Some}
use Rattle.base_types.specs.Items.{Event}
use Rattle.run_trace_io.specs.Answers.{AnswersGroup, reading_of}
use Rattle.run_over_traces.specs.Becoming.{Passes, shown_until}
use Rattle.run_over_traces.specs.Machines.{Answered}
use Rattle.run_over_traces.specs.Steps.{IsStepTowards}
use Rattle.run_over_traces.proofs.Groups.{Fits, fits-next}
use Rattle.run_over_traces.proofs.Stepping.{untouched, step-end, step-stop, step-reset, step-event, back-until, answered-until}
use Rattle.run_over_traces.proofs.running.run_item.Goals as goal

pub returns-in-Ok-None-clause-step : goal.returns-in-Ok-None-clause-step
returns-in-Ok-None-clause-step g c =
    let r = reading_of c.args.reader.now in
    let later = reading_of c.next.new.self in
    let a = subst (λ x. AnswersGroup r x later) (c.in-Ok-None.is ∙ ap Ok c.in-Ok-None.field-0-is) c.next.ensures in
    λ last. step-end (shown_until g.R.Runner.shows g.R.Runner.becomes last) c.args.names.now r later c.args.runner.now _ _ a.0 a.1

pub returns-in-Ok-Some-Reset-clause-step : goal.returns-in-Ok-Some-Reset-clause-step
returns-in-Ok-Some-Reset-clause-step g c =
    let r = reading_of c.args.reader.now in
    let later = reading_of c.next.new.self in
    let is = c.in-Ok-Some-Reset.is ∙ ap Ok (c.in-Ok-Some-Reset.field-0-is ∙ ap Some c.in-Ok-Some-Reset.field-0-0-is) in
    let a = subst (λ x. AnswersGroup r x later) is c.next.ensures in
    λ last. step-reset (shown_until g.R.Runner.shows g.R.Runner.becomes last) c.args.names.now r later c.args.runner.now c.reset.new.self _ _ a.0
    c.requires.within a.1 a.2
    (back-until g.R.Runner.shows g.R.Runner.becomes last c.args.runner.now c.reset.new.self c.reset.ensures.put_back c.reset.ensures.passes)

pub run_event-requires-clause-each_input : goal.run_event-requires-clause-each_input
run_event-requires-clause-each_input g c =
    let r = reading_of c.args.reader.now in
    let later = reading_of c.next.new.self in
    let is = c.in-Ok-Some-React.is ∙ ap Ok (c.in-Ok-Some-React.field-0-is ∙ ap Some c.in-Ok-Some-React.field-0-0-is) in
    let a = subst (λ x. AnswersGroup r x later) is c.next.ensures in
    let fits = subst (Fits r.at (length r.text) (length r.inputs)) a.1 (fits-next r c.requires.within) in
    ap length c.bits.ensures ∙ fits.2 ∙ c.requires.each_input

pub returns-in-Ok-clause-step : goal.returns-in-Ok-clause-step
returns-in-Ok-clause-step g c =
    let r = reading_of c.args.reader.now in
    let later = reading_of c.next.new.self in
    let is = c.in-Ok-Some-React.is ∙ ap Ok (c.in-Ok-Some-React.field-0-is ∙ ap Some c.in-Ok-Some-React.field-0-0-is) in
    let a = subst (λ x. AnswersGroup r x later) is c.next.ensures in
    let came = c.in-Ok.ensures.answered in
    let runner = g.R.Runner in
    let old = c.args.runner.now in
    let new = c.run_event.new.runner in
    let event = c.in-Ok-Some-React.event in
    let shown = subst (λ e. Answered runner.shows old e came.0 new) c.bits.ensures came.1 in
    let passes = subst (λ e. Passes runner.becomes (Event e) old new) c.bits.ensures c.in-Ok.ensures.passes in
    λ last. step-event (shown_until runner.shows runner.becomes last) c.args.names.now r later old new _ (Ok c.in-Ok.field-0) event
    a.0 came.0 c.requires.within a.1 a.2 a.3 (answered-until runner.shows runner.becomes last old new event came.0 shown passes) came.2

pub returns-in-Ok-Some-React-clause-step : goal.returns-in-Ok-Some-React-clause-step
returns-in-Ok-Some-React-clause-step g c =
    let r = reading_of c.args.reader.now in
    let later = reading_of c.next.new.self in
    let is = c.in-Ok-Some-React.is ∙ ap Ok (c.in-Ok-Some-React.field-0-is ∙ ap Some c.in-Ok-Some-React.field-0-0-is) in
    let a = subst (λ x. AnswersGroup r x later) is c.next.ensures in
    let came = c.in-Err-run_event.ensures.answered in
    let runner = g.R.Runner in
    let old = c.args.runner.now in
    let new = c.run_event.new.runner in
    let event = c.in-Ok-Some-React.event in
    let shown = subst (λ e. Answered runner.shows old e came.0 new) c.bits.ensures came.1 in
    let passes = subst (λ e. Passes runner.becomes (Event e) old new) c.bits.ensures c.in-Err-run_event.ensures.passes in
    λ last. step-event (shown_until runner.shows runner.becomes last) c.args.names.now r later old new _ (Err c.in-Err-run_event.fault) event
    a.0 came.0 c.requires.within a.1 a.2 a.3 (answered-until runner.shows runner.becomes last old new event came.0 shown passes) came.2

pub returns-clause-step : goal.returns-clause-step
returns-clause-step g c =
    let r = reading_of c.args.reader.now in
    let later = reading_of c.next.new.self in
    let a = subst (λ x. AnswersGroup r x later) c.in-Err.is c.next.ensures in
    subst (λ f. IsStepTowards g.R.Runner.shows g.R.Runner.becomes c.args.names.now r later c.args.runner.now c.args.runner.now
    (untouched (g.O.Sink.told c.args.out.now) (g.O.Sink.faults c.args.out.now)) (Err f)) (sym c.trace_stop.ensures)
    (λ last. step-stop (shown_until g.R.Runner.shows g.R.Runner.becomes last) c.args.names.now r later c.args.runner.now _ _ c.in-Err.error a)

use Rattle.std.proofs.Common.{◌≤◌, length, ap, subst, sym, ◌∙◌}
use Rattle.base_types.specs.SinkChanges.{change}
use Rattle.cec_prove_commands.specs.Answers.{GainsAll, byte_limit}
use Rattle.cec_prove_commands.specs.Lines.{Subject, job_subject, line_of}
use Rattle.cec_prove_commands.specs.Views.{job_is, spoken_of}
use Rattle.cec_prove_commands.proofs.Progress.{all-told}
use Rattle.cec_prove_commands.proofs.command.told_answer.Goals as goal

pub spoken_of-source-requires-clause-first : goal.spoken_of-source-requires-clause-first
spoken_of-source-requires-clause-first g c = subst (λ b. length c.args.first.now ≤ byte_limit b) (sym c.is_of_texts.ensures) c.requires.first

pub spoken_of-source-requires-clause-second : goal.spoken_of-source-requires-clause-second
spoken_of-source-requires-clause-second g c = subst (λ b. length c.args.second.now ≤ byte_limit b) (sym c.is_of_texts.ensures) c.requires.second

pub returns-clause-says : goal.returns-clause-says
returns-clause-says g c =
    let job = job_is c.args.job in
    c.answer_outcome-outcome.ensures.says job.task job _ _ c.patient_answer-answer.ensures.answers

pub returns-clause-out : goal.returns-clause-out
returns-clause-out g c =
    let job = job_is c.args.job in
    c.answer_outcome-outcome.ensures.out job.task job _ _ c.patient_answer-answer.ensures.answers

pub returns-clause-err : goal.returns-clause-err
returns-clause-err g c =
    let told = c.patient_answer-answer.ensures.told in
    let s = change g.E.Sink.told g.E.Sink.faults c.args.err.now c.patient_answer-answer.new.err in
    let whole = change g.E.Sink.told g.E.Sink.faults c.args.err.now c.report_after.new.err in
    let about = c.subject_of.ensures.subject ∙ ap (job_subject (job_is c.args.job))
    (c.spoken_of-source.ensures.spoken ∙ ap (λ b. spoken_of b c.answer_outcome-outcome.result c.args.first.now c.args.second.now) c.is_of_texts.ensures) in
    subst (λ (t : Subject). GainsAll c.args.progress whole (line_of t c.answer_outcome-outcome.result)) about
    (all-told c.args.progress c.patient_answer-answer.result.told s _ _ _ told (c.report_after.ensures _ _ _ told.wrote))

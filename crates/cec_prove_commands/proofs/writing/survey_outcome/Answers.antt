use Rattle.std.proofs.Common.{true, false, refl, sym, subst}
use Rattle.base_types.specs.SinkChanges.{change}
use Rattle.base_types.proofs.Exports.{appends-nothing}
use Rattle.cec_text_io.specs.Writings.{LeavesText}
use Rattle.est_kernel.specs.Plain.{outgoing_names}
use Rattle.cec_prove_sources.specs.DeviceSurveys.{IsDeviceSurveyText}
use Rattle.cec_prove_sources.specs.DeviceVerdicts.{IsNoOutput}
use Rattle.cec_prove_sources.specs.Surveys.{IsSurveyText}
use Rattle.cec_prove_sources.specs.Verdicts.{IsNone}
use Rattle.cec_prove_commands.specs.Outcomes.{SurveySays, IsSurveyBy}
use Rattle.cec_prove_commands.specs.Statuses.{written_of}
use Rattle.cec_prove_commands.specs.TextOutcomes.{IsTextSurveyBy, IsTextSurveyOf, TextSurveySays}
use Rattle.cec_prove_commands.specs.declared.outcome.ProveOutcome.{ProveOutcome}
use Rattle.cec_prove_commands.specs.declared.outcome.ProveOutcome.TheVariants.{Surveyed, PartlySurveyed}
use Rattle.cec_prove_commands.proofs.Answering.{as_written, lines_left, text_survey_says}
use Rattle.cec_prove_commands.proofs.Answering.{part_left, part_writes, survey_says, survey_left, survey_writes}
use Rattle.cec_prove_commands.proofs.writing.survey_outcome.Goals as goal

pub returns-in-Whole-clause-says : goal.returns-in-Whole-clause-says
returns-in-Whole-clause-says g c = λ job text h.
    let lines = c.in-Whole.lines.items in
    subst (λ (o : ProveOutcome). SurveySays o job text) (sym c.written_outcome.ensures)
    (survey_writes c.write_whole.result job text lines
    (survey_says text job _ _ (λ p. IsSurveyText p job.assumed (outgoing_names p) lines true) h c.in-Whole.is (λ p is. is)))

pub returns-in-Whole-clause-out : goal.returns-in-Whole-clause-out
returns-in-Whole-clause-out g c = λ job text h.
    let lines = c.in-Whole.lines.items in
    let s = change g.O.Sink.told g.O.Sink.faults c.args.out.now c.write_whole.new.out in
    subst (λ (o : ProveOutcome). LeavesText (IsSurveyBy o job text) s (written_of o)) (sym c.written_outcome.ensures)
    (survey_left _ lines job text s c.write_whole.result
    (survey_says text job _ _ (λ p. IsSurveyText p job.assumed (outgoing_names p) lines true) h c.in-Whole.is (λ p is. is))
    c.deref.ensures.value c.write_whole.ensures)

pub returns-in-Partly-clause-says : goal.returns-in-Partly-clause-says
returns-in-Partly-clause-says g c = λ job text h.
    let lines = c.in-Partly.lines.items in
    subst (λ (o : ProveOutcome). SurveySays o job text) (sym c.written_outcome-in-Partly.ensures)
    (part_writes c.write_whole-in-Partly.result job text lines
    (survey_says text job _ _ (λ p. IsSurveyText p job.assumed (outgoing_names p) lines false) h c.in-Partly.is (λ p is. is)))

pub returns-in-Partly-clause-out : goal.returns-in-Partly-clause-out
returns-in-Partly-clause-out g c = λ job text h.
    let lines = c.in-Partly.lines.items in
    let s = change g.O.Sink.told g.O.Sink.faults c.args.out.now c.write_whole-in-Partly.new.out in
    subst (λ (o : ProveOutcome). LeavesText (IsSurveyBy o job text) s (written_of o)) (sym c.written_outcome-in-Partly.ensures)
    (part_left _ lines job text s c.write_whole-in-Partly.result
    (survey_says text job _ _ (λ p. IsSurveyText p job.assumed (outgoing_names p) lines false) h c.in-Partly.is (λ p is. is))
    c.deref-in-Partly.ensures.value c.write_whole-in-Partly.ensures)

pub returns-in-NoAssumed-clause-says : goal.returns-in-NoAssumed-clause-says
returns-in-NoAssumed-clause-says g c = λ job text h. survey_says text job _ _ (λ p. IsNone p job.assumed) h c.in-NoAssumed.is (λ p is. is)

pub returns-in-NoAssumed-clause-out : goal.returns-in-NoAssumed-clause-out
returns-in-NoAssumed-clause-out g c = λ job text h. appends-nothing _ _

pub returns-in-Whole-clause-says_of_text : goal.returns-in-Whole-clause-says_of_text
returns-in-Whole-clause-says_of_text g c = λ assumed text h.
    let lines = c.in-Whole.lines.items in
    let is : IsTextSurveyOf assumed true text lines =
    text_survey_says text assumed _ _ (λ d. IsDeviceSurveyText d assumed d.outputs lines true) h c.in-Whole.is (λ d is. is) in
    subst (λ (o : ProveOutcome). TextSurveySays o assumed text) (sym c.written_outcome.ensures)
    (as_written Surveyed (λ o. TextSurveySays o assumed text) c.write_whole.result (lines, is) (true, (lines, is)) tt)

pub returns-in-Whole-clause-out_of_text : goal.returns-in-Whole-clause-out_of_text
returns-in-Whole-clause-out_of_text g c = λ assumed text h.
    let lines = c.in-Whole.lines.items in
    let s = change g.O.Sink.told g.O.Sink.faults c.args.out.now c.write_whole.new.out in
    let is : IsTextSurveyOf assumed true text lines =
    text_survey_says text assumed _ _ (λ d. IsDeviceSurveyText d assumed d.outputs lines true) h c.in-Whole.is (λ d is. is) in
    subst (λ (o : ProveOutcome). LeavesText (IsTextSurveyBy o assumed text) s (written_of o)) (sym c.written_outcome.ensures)
    (lines_left Surveyed (λ o. IsTextSurveyBy o assumed text) _ lines s c.write_whole.result refl is (true, is)
    c.deref.ensures.value c.write_whole.ensures)

pub returns-in-Partly-clause-says_of_text : goal.returns-in-Partly-clause-says_of_text
returns-in-Partly-clause-says_of_text g c = λ assumed text h.
    let lines = c.in-Partly.lines.items in
    let is : IsTextSurveyOf assumed false text lines =
    text_survey_says text assumed _ _ (λ d. IsDeviceSurveyText d assumed d.outputs lines false) h c.in-Partly.is (λ d is. is) in
    subst (λ (o : ProveOutcome). TextSurveySays o assumed text) (sym c.written_outcome-in-Partly.ensures)
    (as_written PartlySurveyed (λ o. TextSurveySays o assumed text) c.write_whole-in-Partly.result (lines, is) (false, (lines, is)) tt)

pub returns-in-Partly-clause-out_of_text : goal.returns-in-Partly-clause-out_of_text
returns-in-Partly-clause-out_of_text g c = λ assumed text h.
    let lines = c.in-Partly.lines.items in
    let s = change g.O.Sink.told g.O.Sink.faults c.args.out.now c.write_whole-in-Partly.new.out in
    let is : IsTextSurveyOf assumed false text lines =
    text_survey_says text assumed _ _ (λ d. IsDeviceSurveyText d assumed d.outputs lines false) h c.in-Partly.is (λ d is. is) in
    subst (λ (o : ProveOutcome). LeavesText (IsTextSurveyBy o assumed text) s (written_of o)) (sym c.written_outcome-in-Partly.ensures)
    (lines_left PartlySurveyed (λ o. IsTextSurveyBy o assumed text) _ lines s c.write_whole-in-Partly.result refl is (false, is)
    c.deref-in-Partly.ensures.value c.write_whole-in-Partly.ensures)

pub returns-in-NoAssumed-clause-says_of_text : goal.returns-in-NoAssumed-clause-says_of_text
returns-in-NoAssumed-clause-says_of_text g c = λ assumed text h.
    text_survey_says text assumed _ _ (λ d. IsNoOutput d assumed) h c.in-NoAssumed.is (λ d is. is)

pub returns-in-NoAssumed-clause-out_of_text : goal.returns-in-NoAssumed-clause-out_of_text
returns-in-NoAssumed-clause-out_of_text g c = λ assumed text h. appends-nothing _ _

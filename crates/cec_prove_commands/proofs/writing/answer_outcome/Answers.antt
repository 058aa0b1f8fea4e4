use Rattle.std.proofs.Common.{subst}
use Rattle.base_types.specs.SinkChanges.{change}
use Rattle.base_types.proofs.Exports.{appends-nothing}
use Rattle.cec_prove_commands.specs.Answers.{IsAnswer}
use Rattle.cec_prove_commands.specs.declared.answers.Answer.{Answer}
use Rattle.cec_prove_commands.proofs.Answering.{asked_out, asked_says, bad_text_says, compared_out, compared_says, covered_out, covered_says}
use Rattle.cec_prove_commands.proofs.Answering.{no_memory_says, surveyed_out, surveyed_says}
use Rattle.cec_prove_commands.proofs.Refused.{refused_out, refused_says}
use Rattle.cec_prove_commands.proofs.writing.answer_outcome.Goals as goal

pub returns-in-Asked-clause-says : goal.returns-in-Asked-clause-says
returns-in-Asked-clause-says g c = λ task job first second h.
    asked_says c.in-Asked.verdict c.verdict_outcome.result task job first second c.verdict_outcome.ensures.says
    c.verdict_outcome.ensures.says_of_text
    (subst (λ (a : Answer). IsAnswer a task job first second) c.in-Asked.is h)

pub returns-in-Asked-clause-out : goal.returns-in-Asked-clause-out
returns-in-Asked-clause-out g c = λ task job first second h.
    asked_out c.in-Asked.verdict c.verdict_outcome.result (change g.O.Sink.told g.O.Sink.faults c.args.out.now c.verdict_outcome.new.out) task job
    first second
    c.verdict_outcome.ensures.out c.verdict_outcome.ensures.out_of_text (subst (λ (a : Answer). IsAnswer a task job first second) c.in-Asked.is h)

pub returns-in-Surveyed-clause-says : goal.returns-in-Surveyed-clause-says
returns-in-Surveyed-clause-says g c = λ task job first second h.
    surveyed_says c.in-Surveyed.survey c.survey_outcome.result task job first second c.survey_outcome.ensures.says
    c.survey_outcome.ensures.says_of_text
    (subst (λ (a : Answer). IsAnswer a task job first second) c.in-Surveyed.is h)

pub returns-in-Surveyed-clause-out : goal.returns-in-Surveyed-clause-out
returns-in-Surveyed-clause-out g c = λ task job first second h.
    surveyed_out c.in-Surveyed.survey c.survey_outcome.result (change g.O.Sink.told g.O.Sink.faults c.args.out.now c.survey_outcome.new.out) task job
    first second
    c.survey_outcome.ensures.out c.survey_outcome.ensures.out_of_text (subst (λ (a : Answer). IsAnswer a task job first second) c.in-Surveyed.is h)

pub returns-in-Covered-clause-says : goal.returns-in-Covered-clause-says
returns-in-Covered-clause-says g c = λ task job first second h.
    covered_says c.in-Covered.covering c.covering_outcome.result task job first second c.covering_outcome.ensures.says
    (subst (λ (a : Answer). IsAnswer a task job first second) c.in-Covered.is h)

pub returns-in-Covered-clause-out : goal.returns-in-Covered-clause-out
returns-in-Covered-clause-out g c = λ task job first second h.
    covered_out c.in-Covered.covering c.covering_outcome.result (change g.O.Sink.told g.O.Sink.faults c.args.out.now c.covering_outcome.new.out) task
    job first second
    c.covering_outcome.ensures.out (subst (λ (a : Answer). IsAnswer a task job first second) c.in-Covered.is h)

pub returns-in-Compared-clause-says : goal.returns-in-Compared-clause-says
returns-in-Compared-clause-says g c = λ task job first second h.
    compared_says c.in-Compared.comparison c.comparison_outcome.result task job first second c.comparison_outcome.ensures.says
    c.comparison_outcome.ensures.says_of_texts
    (subst (λ (a : Answer). IsAnswer a task job first second) c.in-Compared.is h)

pub returns-in-Compared-clause-out : goal.returns-in-Compared-clause-out
returns-in-Compared-clause-out g c = λ task job first second h.
    compared_out c.in-Compared.comparison c.comparison_outcome.result
    (change g.O.Sink.told g.O.Sink.faults c.args.out.now c.comparison_outcome.new.out) task job first second
    c.comparison_outcome.ensures.out c.comparison_outcome.ensures.out_of_texts (subst (λ (a : Answer). IsAnswer a task job first second) c.in-Compared.is h)

pub returns-in-Refused-clause-says : goal.returns-in-Refused-clause-says
returns-in-Refused-clause-says g c = λ task job first second h.
    refused_says c.in-Refused.which c.in-Refused.refusal (change g.O.Sink.told g.O.Sink.faults c.args.out.now c.refused.new.out) c.refused.result task
    job first second c.refused.ensures (subst (λ (a : Answer). IsAnswer a task job first second) c.in-Refused.is h)

pub returns-in-Refused-clause-out : goal.returns-in-Refused-clause-out
returns-in-Refused-clause-out g c = λ task job first second h.
    refused_out c.in-Refused.which c.in-Refused.refusal (change g.O.Sink.told g.O.Sink.faults c.args.out.now c.refused.new.out) c.refused.result task
    job first second c.refused.ensures (subst (λ (a : Answer). IsAnswer a task job first second) c.in-Refused.is h)

pub returns-in-BadText-clause-says : goal.returns-in-BadText-clause-says
returns-in-BadText-clause-says g c = λ task job first second h.
    bad_text_says c.in-BadText.which c.in-BadText.fault task job first second
    (subst (λ (a : Answer). IsAnswer a task job first second) c.in-BadText.is h)

pub returns-in-BadText-clause-out : goal.returns-in-BadText-clause-out
returns-in-BadText-clause-out g c = λ task job first second h. appends-nothing _ _

pub returns-in-NoMemory-clause-says : goal.returns-in-NoMemory-clause-says
returns-in-NoMemory-clause-says g c = λ task job first second h. no_memory_says task job first second

pub returns-in-NoMemory-clause-out : goal.returns-in-NoMemory-clause-out
returns-in-NoMemory-clause-out g c = λ task job first second h. appends-nothing _ _

use Rattle.std.proofs.Common.{◌≤◌, length, subst}
use Rattle.cec_prove_commands.specs.Answers.{byte_limit}
use Rattle.cec_prove_commands.specs.Views.{task_is}
use Rattle.cec_prove_commands.specs.Words.{is_of_texts}
use Rattle.cec_prove_commands.specs.declared.words.Task as tasks
use Rattle.cec_prove_commands.proofs.sources.answer.Goals as goal

pub claim_answer-requires : goal.claim_answer-requires
claim_answer-requires c = subst (λ (t : tasks.Task). length c.args.first.now ≤ byte_limit (is_of_texts (task_is t))) c.in-Ask.is c.requires.first

pub survey_answer-requires : goal.survey_answer-requires
survey_answer-requires c = subst (λ (t : tasks.Task). length c.args.first.now ≤ byte_limit (is_of_texts (task_is t))) c.in-Survey.is c.requires.first

pub covering_answer-requires : goal.covering_answer-requires
covering_answer-requires c = subst (λ (t : tasks.Task). length c.args.first.now ≤ byte_limit (is_of_texts (task_is t))) c.in-Cover.is c.requires.first

pub comparison_answer-requires-clause-first : goal.comparison_answer-requires-clause-first
comparison_answer-requires-clause-first c =
    subst (λ (t : tasks.Task). length c.args.first.now ≤ byte_limit (is_of_texts (task_is t))) c.in-Compare.is c.requires.first

pub comparison_answer-requires-clause-second : goal.comparison_answer-requires-clause-second
comparison_answer-requires-clause-second c =
    subst (λ (t : tasks.Task). length c.args.second.now ≤ byte_limit (is_of_texts (task_is t))) c.in-Compare.is c.requires.second

pub text_claim_answer-requires : goal.text_claim_answer-requires
text_claim_answer-requires c = subst (λ (t : tasks.Task). length c.args.first.now ≤ byte_limit (is_of_texts (task_is t))) c.in-AskText.is c.requires.first

pub text_survey_answer-requires : goal.text_survey_answer-requires
text_survey_answer-requires c = subst (λ (t : tasks.Task). length c.args.first.now ≤ byte_limit (is_of_texts (task_is t))) c.in-SurveyText.is c.requires.first

pub text_comparison_answer-requires-clause-first : goal.text_comparison_answer-requires-clause-first
text_comparison_answer-requires-clause-first c =
    subst (λ (t : tasks.Task). length c.args.first.now ≤ byte_limit (is_of_texts (task_is t))) c.in-CompareTexts.is c.requires.first

pub text_comparison_answer-requires-clause-second : goal.text_comparison_answer-requires-clause-second
text_comparison_answer-requires-clause-second c =
    subst (λ (t : tasks.Task). length c.args.second.now ≤ byte_limit (is_of_texts (task_is t))) c.in-CompareTexts.is c.requires.second

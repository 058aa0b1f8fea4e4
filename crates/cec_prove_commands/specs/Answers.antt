-- Inner: what the answer to a task says, before any of it is written, and what a search told meanwhile.
use Rattle.std.specs.Prelude.{ℕ, ◌≤◌, ⊤, Bool, true, false, List, ◌++◌, Result}
use Rattle.base_types.specs.declared.bounds.TheConstants.Limits.{SOURCE_BYTES, TEXT_BYTES}
use Rattle.base_types.specs.Writing.{Wrote}
use Rattle.base_types.specs.declared.sinks.writing.SinkFault.{SinkFault}
use Rattle.base_types.specs.SinkChanges.{SinkChange}
use Rattle.cec_cycles.specs.Constructive.{IsRefusedConstructive}
use Rattle.cec_cycles.specs.declared.findings.CycleRefusal.TheVariants as causes
use Rattle.cec_prove_covers.specs.Coverings.{HasCovering}
use Rattle.cec_prove_covers.specs.declared.coverings.Covering.TheVariants as covering
use Rattle.cec_prove_cycles.specs.Answers.{HasConstructiveComparison, HasConstructiveSurvey, HasConstructiveVerdict}
use Rattle.cec_prove_cycles.specs.Answers.{IsPairRefusedConstructive}
use Rattle.cec_prove_cycles.specs.declared.refusal.CyclePairRefusal.TheVariants as sources
use Rattle.cec_prove_sources.specs.declared.questions.Comparison.TheVariants as comparing
use Rattle.cec_prove_sources.specs.declared.questions.Survey.TheVariants as surveying
use Rattle.cec_prove_sources.specs.declared.questions.Verdict.TheVariants as deciding
use Rattle.cec_prove_texts.specs.Sameness.{HasTextComparison}
use Rattle.cec_prove_texts.specs.Surveys.{HasTextSurvey}
use Rattle.cec_prove_texts.specs.Verdicts.{HasTextVerdict}
use Rattle.cec_prove_texts.specs.Faults.{IsPairFault}
use Rattle.cec_prove_texts.specs.declared.fault.PairFault.TheVariants as pairs
use Rattle.cec_opt_texts.specs.Faults.{IsOptFault}
use Rattle.cec_text_io.specs.Contents.{Content, IsHeld}
use Rattle.cec_text_io.specs.ErrorLines.{GainsLine}
use Rattle.cec_prove_commands.specs.Lines.{most_further, progress_lines}
use Rattle.cec_prove_commands.specs.Outcomes.{ClaimSays, ComparisonSays, CoveringSays, SurveySays, question_of}
use Rattle.cec_prove_commands.specs.Outcomes.{IsClaimTraceBy, IsCoveringBy, IsDistinctionBy, IsSurveyBy}
use Rattle.cec_prove_commands.specs.TextOutcomes.{IsTextDistinction, IsTextRefutation, IsTextSurveyBy}
use Rattle.cec_prove_commands.specs.TextOutcomes.{TextClaimSays, TextComparisonSays, TextSurveySays}
use Rattle.cec_prove_commands.specs.Words.{Job, Task, Ask, Survey, Cover, Compare}
use Rattle.cec_prove_commands.specs.Words.{AskText, SurveyText, CompareTexts}
use Rattle.cec_prove_commands.specs.declared.answers.Answer.{Answer}
use Rattle.cec_prove_commands.specs.declared.answers.Answer.TheVariants as answers
use Rattle.cec_prove_commands.specs.declared.outcome.ProveOutcome.{ProveOutcome}
use Rattle.cec_words.specs.declared.common.Which.TheVariants.{First, Second}

-- an answer is one to a task about these texts, the second of which a comparison alone reads
abbrev pub IsAnswer : Answer → Task → Job → (first second : List ℕ) → Type 0
IsAnswer (answers.Asked verdict) (Ask claim signal) job first second =
    HasConstructiveVerdict first job.main (question_of claim signal job) verdict
IsAnswer (answers.Surveyed survey) Survey job first second = HasConstructiveSurvey first job.main job.assumed survey
IsAnswer (answers.Covered covering) Cover job first second = HasCovering first job.main job.assumed covering
IsAnswer (answers.Compared comparison) (Compare other) job first second =
    HasConstructiveComparison first second job.main comparison
IsAnswer (answers.Refused First refusal) (Ask claim signal) job first second =
    IsRefusedConstructive first job.main refusal
IsAnswer (answers.Refused First refusal) Survey job first second = IsRefusedConstructive first job.main refusal
IsAnswer (answers.Refused First refusal) Cover job first second = IsRefusedConstructive first job.main refusal
IsAnswer (answers.Refused First refusal) (Compare other) job first second = IsRefusedConstructive first job.main refusal
IsAnswer (answers.Refused Second refusal) (Compare other) job first second =
    IsPairRefusedConstructive first second job.main (sources.Second refusal)
IsAnswer (answers.Asked verdict) (AskText claim signal) job first second =
    HasTextVerdict first (question_of claim signal job) verdict
IsAnswer (answers.Surveyed survey) SurveyText job first second = HasTextSurvey first job.assumed survey
IsAnswer (answers.Compared comparison) (CompareTexts other) job first second =
    HasTextComparison first second comparison
IsAnswer (answers.BadText First fault) (AskText claim signal) job first second = IsOptFault first fault
IsAnswer (answers.BadText First fault) SurveyText job first second = IsOptFault first fault
IsAnswer (answers.BadText First fault) (CompareTexts other) job first second = IsOptFault first fault
IsAnswer (answers.BadText Second fault) (CompareTexts other) job first second =
    IsPairFault first second (pairs.Second fault)
IsAnswer answers.NoMemory task job first second = ⊤
IsAnswer others task job first second = ⊥

-- an answer leaves something undecided
abbrev pub is_open : Answer → Bool
is_open (answers.Asked (deciding.Open depth)) = true
is_open (answers.Surveyed (surveying.Partly lines)) = true
is_open (answers.Covered (covering.Partly lines)) = true
is_open (answers.Compared (comparing.Open depth)) = true
is_open (answers.Refused which (causes.Undecided cycle)) = true
is_open others = false

-- what the outcome of a task says of these texts
abbrev pub SaysOfTexts : Task → ProveOutcome → Job → (first second : List ℕ) → Type 0
SaysOfTexts (Ask claim signal) outcome job first second = ClaimSays (question_of claim signal job) outcome job first
SaysOfTexts Survey outcome job first second = SurveySays outcome job first
SaysOfTexts Cover outcome job first second = CoveringSays outcome job first
SaysOfTexts (Compare other) outcome job first second = ComparisonSays outcome job first second
SaysOfTexts (AskText claim signal) outcome job first second = TextClaimSays (question_of claim signal job) outcome first
SaysOfTexts SurveyText outcome job first second = TextSurveySays outcome job.assumed first
SaysOfTexts (CompareTexts other) outcome job first second = TextComparisonSays outcome first second

-- what a task writes about these texts, where it ends with an outcome
abbrev pub IsWrittenBy : Task → ProveOutcome → Job → (first second written : List ℕ) → Type 0
IsWrittenBy (Ask claim signal) outcome job first second written =
    IsClaimTraceBy (question_of claim signal job) outcome job first written
IsWrittenBy Survey outcome job first second written = IsSurveyBy outcome job first written
IsWrittenBy Cover outcome job first second written = IsCoveringBy outcome job first written
IsWrittenBy (Compare other) outcome job first second written = IsDistinctionBy outcome job first second written
IsWrittenBy (AskText claim signal) outcome job first second written =
    IsTextRefutation (question_of claim signal job) first written
IsWrittenBy SurveyText outcome job first second written = IsTextSurveyBy outcome job.assumed first written
IsWrittenBy (CompareTexts other) outcome job first second written = IsTextDistinction first second written

-- A sink gained the lines of a search so far, or a prefix of them, as the last write of one ended.
pub record HasTold (progress : Bool) (told : Result (Unit {0}) SinkFault) (s : SinkChange) : Type 0 where
  pub further : ℕ
  pub few : further ≤ most_further progress
  pub wrote : Wrote s.before s.after s.faults_before s.faults_now (progress_lines further) told

-- The same with a last line, or a prefix of all of that where the count of faults rose.
pub record GainsAll (progress : Bool) (s : SinkChange) (last : List ℕ) : Type 0 where
  pub further : ℕ
  pub few : further ≤ most_further progress
  pub gains : GainsLine s.before s.after s.faults_before s.faults_now (progress_lines further ++ last)

-- the files of a task hold these texts
abbrev pub AreHeld : Content → Task → Job → (first second : List ℕ) → Type 0
AreHeld content (Ask claim signal) job first second = IsHeld content job.name first
AreHeld content Survey job first second = IsHeld content job.name first
AreHeld content Cover job first second = IsHeld content job.name first
AreHeld content (Compare other) job first second = IsHeld content job.name first × IsHeld content other second
AreHeld content (AskText claim signal) job first second = IsHeld content job.name first
AreHeld content SurveyText job first second = IsHeld content job.name first
AreHeld content (CompareTexts other) job first second = IsHeld content job.name first × IsHeld content other second

-- how many bytes a text, or a source, may have
abbrev pub byte_limit : (of_texts : Bool) → ℕ
byte_limit true = TEXT_BYTES
byte_limit false = SOURCE_BYTES

-- What an outcome says of an answer, and what is left of its text in a sink.
use Rattle.std.proofs.Common.{◌≡◌, ℕ, true, false, List, Option, Some, inl, sym, subst, ◌∙◌}
use Rattle.base_types.specs.SinkChanges.{SinkChange}
use Rattle.est_kernel.specs.Plain.{Program}
use Rattle.cec_text_io.proofs.Pieces as texts
use Rattle.cec_text_io.specs.Writings.{LeavesText}
use Rattle.cec_text_io.specs.declared.writing.Written.{Written}
use Rattle.cec_text_io.specs.declared.writing.Written.TheVariants as ends
use Rattle.cec_prove_covers.specs.Coverings.{HasCovering, SaysCovering}
use Rattle.cec_prove_covers.specs.declared.coverings.Covering.{Covering}
use Rattle.cec_prove_cycles.specs.Answers.{HasConstructiveComparison, HasConstructiveSurvey, HasConstructiveVerdict}
use Rattle.cec_prove_sources.specs.DeviceSameness.{IsDeviceComparison}
use Rattle.cec_prove_sources.specs.DeviceSurveys.{IsDeviceSurvey}
use Rattle.cec_prove_sources.specs.DeviceVerdicts.{IsDeviceVerdict}
use Rattle.cec_prove_sources.specs.Devices.{Device}
use Rattle.cec_prove_sources.specs.Sameness.{IsComparison}
use Rattle.cec_prove_sources.specs.Surveys.{IsSurvey}
use Rattle.cec_prove_sources.specs.Verdicts.{IsVerdict, PlainQuestion}
use Rattle.cec_prove_sources.specs.declared.questions.Comparison.{Comparison}
use Rattle.cec_prove_sources.specs.declared.questions.Survey.{Survey}
use Rattle.cec_prove_sources.specs.declared.questions.Verdict.{Verdict}
use Rattle.cec_prove_texts.specs.Devices.{circuit_device}
use Rattle.cec_prove_texts.specs.Sameness.{HasTextComparison}
use Rattle.cec_prove_texts.specs.Surveys.{HasTextSurvey}
use Rattle.cec_prove_texts.specs.Verdicts.{HasTextVerdict}
use Rattle.blif_read.specs.declared.fault.BlifFault.{BlifFault}
use Rattle.cec_prove_commands.specs.Answers.{IsAnswer, IsWrittenBy, SaysOfTexts}
use Rattle.cec_prove_commands.specs.Outcomes.{Answered, ClaimSays, Compared, ComparisonSays, CoveringSays, IsClaimTraceBy, IsCoveringBy, IsCoveringOf}
use Rattle.cec_prove_commands.specs.Outcomes.{IsDistinction, IsDistinctionBy, IsRefutation, IsSurveyBy, IsSurveyOf, SurveySays, question_of}
use Rattle.cec_prove_commands.specs.Statuses.{written_of, written_outcome}
use Rattle.cec_prove_commands.specs.TextOutcomes.{IsTextDistinction, IsTextRefutation, IsTextSurveyBy, TextAnswered, TextClaimSays, TextComparisonSays}
use Rattle.cec_prove_commands.specs.TextOutcomes.{TextSurveySays, TextsCompared}
use Rattle.cec_prove_commands.specs.Words.{Job, Task, Ask, Survey as Surveys, Cover, Compare, AskText, SurveyText, CompareTexts}
use Rattle.cec_prove_commands.specs.declared.answers.Answer.TheVariants as answers
use Rattle.cec_prove_commands.specs.declared.outcome.InputFault.TheVariants.{BadText}
use Rattle.cec_prove_commands.specs.declared.outcome.ProveOutcome.{ProveOutcome}
use Rattle.cec_prove_commands.specs.declared.outcome.ProveOutcome.TheVariants.{Refuted, Surveyed, PartlySurveyed, Covered, PartlyCovered}
use Rattle.cec_prove_commands.specs.declared.outcome.ProveOutcome.TheVariants.{BadInput, WriteFault, NoMemory}
use Rattle.cec_words.specs.declared.common.Which.{Which}
use Rattle.cec_words.specs.declared.common.Which.TheVariants.{First, Second}

-- ---- what an answer says of the program

pub verdict_says : (text : List ℕ) (job : Job) (q : PlainQuestion) (verdict v : Verdict) (Says : Program → Type 0)
    → HasConstructiveVerdict text job.main q verdict → verdict ≡ v → ((p : Program) → IsVerdict p q v → Says p) → Answered text job Says
verdict_says text job q verdict v Says h is says = record {
  program = h.program;
  source = h.source;
  limits = h.limits;
  says = says h.program (subst (IsVerdict h.program q) is h.says);
}

pub survey_says : (text : List ℕ) (job : Job) (survey v : Survey) (Says : Program → Type 0) → HasConstructiveSurvey text job.main job.assumed survey
    → survey ≡ v → ((p : Program) → IsSurvey p job.assumed v → Says p) → Answered text job Says
survey_says text job survey v Says h is says = record {
  program = h.program;
  source = h.source;
  limits = h.limits;
  says = says h.program (subst (IsSurvey h.program job.assumed) is h.says);
}

pub covering_says : (text : List ℕ) (job : Job) (covering v : Covering) (Says : Program → Type 0) → HasCovering text job.main job.assumed covering
    → covering ≡ v → ((p : Program) → SaysCovering text job.main job.assumed p v → Says p) → Answered text job Says
covering_says text job covering v Says h is says = record {
  program = h.program;
  source = h.stands;
  limits = h.limits;
  says = says h.program (subst (SaysCovering text job.main job.assumed h.program) is h.says);
}

pub comparison_says : (first second : List ℕ) (job : Job) (comparison v : Comparison) (Says : Program → Program → Type 0)
    → HasConstructiveComparison first second job.main comparison → comparison ≡ v → ((p q : Program) → IsComparison p q v → Says p q)
    → Compared first second job Says
comparison_says first second job comparison v Says h is says = record {
  left = h.left;
  left_source = h.left_source;
  left_limits = h.left_limits;
  right = h.right;
  right_source = h.right_source;
  right_limits = h.right_limits;
  says = says h.left h.right (subst (IsComparison h.left h.right) is h.says);
}

-- ---- what an answer says of a text

pub text_verdict_says : (text : List ℕ) (q : PlainQuestion) (verdict v : Verdict) (Says : Device → Type 0) → HasTextVerdict text q verdict → verdict ≡ v
    → ((d : Device) → IsDeviceVerdict d q v → Says d) → TextAnswered text Says
text_verdict_says text q verdict v Says h is says = record {
  circuit = h.circuit;
  names = h.names;
  describes = h.describes;
  says = says (circuit_device h.circuit h.names) (subst (IsDeviceVerdict (circuit_device h.circuit h.names) q) is h.says);
}

pub text_survey_says : (text : List ℕ) (assumed : Option (List ℕ)) (survey v : Survey) (Says : Device → Type 0) → HasTextSurvey text assumed survey
    → survey ≡ v → ((d : Device) → IsDeviceSurvey d assumed v → Says d) → TextAnswered text Says
text_survey_says text assumed survey v Says h is says = record {
  circuit = h.circuit;
  names = h.names;
  describes = h.describes;
  says = says (circuit_device h.circuit h.names) (subst (IsDeviceSurvey (circuit_device h.circuit h.names) assumed) is h.says);
}

pub text_comparison_says : (first second : List ℕ) (comparison v : Comparison) (Says : Device → Device → Type 0) → HasTextComparison first second comparison
    → comparison ≡ v → ((d e : Device) → IsDeviceComparison d e v → Says d e) → TextsCompared first second Says
text_comparison_says first second comparison v Says h is says =
    let d = circuit_device h.left h.left_names in
    let e = circuit_device h.right h.right_names in
    record {
      left = h.left;
      left_names = h.left_names;
      left_describes = h.left_describes;
      right = h.right;
      right_names = h.right_names;
      right_describes = h.right_describes;
      says = says d e (subst (IsDeviceComparison d e) is h.says);
    }

-- ---- what the outcome of a writing says

-- what is so where all is written, where it is not, and where memory ran out
pub as_written : (done : ProveOutcome) (Says : ProveOutcome → Type 0) (ended : Written) → Says done → Says WriteFault → Says NoMemory
    → Says (written_outcome done ended)
as_written done Says ends.Done all part none = all
as_written done Says ends.WriteFault all part none = part
as_written done Says ends.NoMemory all part none = none

pub claim_writes : (ended : Written) (q : PlainQuestion) (job : Job) (text trace : List ℕ) → IsRefutation q job text trace
    → ClaimSays q (written_outcome Refuted ended) job text
claim_writes ends.Done q job text trace is = (trace, is)
claim_writes ends.WriteFault q job text trace is = inl (trace, is)
claim_writes ends.NoMemory q job text trace is = tt

pub survey_writes : (ended : Written) (job : Job) (text lines : List ℕ) → IsSurveyOf job true text lines
    → SurveySays (written_outcome Surveyed ended) job text
survey_writes ends.Done job text lines is = (lines, is)
survey_writes ends.WriteFault job text lines is = inl (true, (lines, is))
survey_writes ends.NoMemory job text lines is = tt

pub part_writes : (ended : Written) (job : Job) (text lines : List ℕ) → IsSurveyOf job false text lines
    → SurveySays (written_outcome PartlySurveyed ended) job text
part_writes ends.Done job text lines is = (lines, is)
part_writes ends.WriteFault job text lines is = inl (false, (lines, is))
part_writes ends.NoMemory job text lines is = tt

pub covering_writes : (ended : Written) (job : Job) (text lines : List ℕ) → IsCoveringOf job true text lines
    → CoveringSays (written_outcome Covered ended) job text
covering_writes ends.Done job text lines is = (lines, is)
covering_writes ends.WriteFault job text lines is = inl (true, (lines, is))
covering_writes ends.NoMemory job text lines is = tt

pub covering_part_writes : (ended : Written) (job : Job) (text lines : List ℕ) → IsCoveringOf job false text lines
    → CoveringSays (written_outcome PartlyCovered ended) job text
covering_part_writes ends.Done job text lines is = (lines, is)
covering_part_writes ends.WriteFault job text lines is = inl (false, (lines, is))
covering_part_writes ends.NoMemory job text lines is = tt

pub comparison_writes : (ended : Written) (job : Job) (first second trace : List ℕ) → IsDistinction job first second trace
    → ComparisonSays (written_outcome Refuted ended) job first second
comparison_writes ends.Done job first second trace is = (trace, is)
comparison_writes ends.WriteFault job first second trace is = inl (trace, is)
comparison_writes ends.NoMemory job first second trace is = tt

-- ---- what is left of a text

-- a text of which this is so
left_as : (P : List ℕ → Type 0) (bytes text : List ℕ) (s : SinkChange) (ended : Written) → P text → bytes ≡ text
    → LeavesText (λ t. t ≡ bytes) s (Some ended) → LeavesText P s (Some ended)
left_as P bytes text s ended p same = texts.text_as (λ t. t ≡ bytes) P s (Some ended) (λ t is. subst P (sym (is ∙ same)) p)

pub trace_left : (P : List ℕ → Type 0) (bytes text : List ℕ) (s : SinkChange) (ended : Written) → P text → bytes ≡ text
    → LeavesText (λ t. t ≡ bytes) s (Some ended) → LeavesText P s (written_of (written_outcome Refuted ended))
trace_left P bytes text s ends.Done p same l = left_as P bytes text s ends.Done p same l
trace_left P bytes text s ends.WriteFault p same l = left_as P bytes text s ends.WriteFault p same l
trace_left P bytes text s ends.NoMemory p same l = l

-- lines that end with an outcome
pub lines_left : (done : ProveOutcome) (By : ProveOutcome → List ℕ → Type 0) (bytes text : List ℕ) (s : SinkChange) (ended : Written)
    → written_of done ≡ Some ends.Done → By done text → By WriteFault text → bytes ≡ text → LeavesText (λ t. t ≡ bytes) s (Some ended)
    → LeavesText (By (written_outcome done ended)) s (written_of (written_outcome done ended))
lines_left done By bytes text s ends.Done is all part same l =
    subst (λ w. LeavesText (By done) s w) (sym is) (left_as (By done) bytes text s ends.Done all same l)
lines_left done By bytes text s ends.WriteFault is all part same l = left_as (By WriteFault) bytes text s ends.WriteFault part same l
lines_left done By bytes text s ends.NoMemory is all part same l = l

pub survey_left : (bytes text : List ℕ) (job : Job) (source : List ℕ) (s : SinkChange) (ended : Written) → IsSurveyOf job true source text → bytes ≡ text
    → LeavesText (λ t. t ≡ bytes) s (Some ended)
    → LeavesText (IsSurveyBy (written_outcome Surveyed ended) job source) s (written_of (written_outcome Surveyed ended))
survey_left bytes text job source s ends.Done p same l = left_as (IsSurveyOf job true source) bytes text s ends.Done p same l
survey_left bytes text job source s ends.WriteFault p same l =
    left_as (IsSurveyBy (written_outcome Surveyed ends.WriteFault) job source) bytes text s ends.WriteFault (inl (true, p)) same l
survey_left bytes text job source s ends.NoMemory p same l = l

pub part_left : (bytes text : List ℕ) (job : Job) (source : List ℕ) (s : SinkChange) (ended : Written) → IsSurveyOf job false source text → bytes ≡ text
    → LeavesText (λ t. t ≡ bytes) s (Some ended)
    → LeavesText (IsSurveyBy (written_outcome PartlySurveyed ended) job source) s (written_of (written_outcome PartlySurveyed ended))
part_left bytes text job source s ends.Done p same l = left_as (IsSurveyOf job false source) bytes text s ends.Done p same l
part_left bytes text job source s ends.WriteFault p same l =
    left_as (IsSurveyBy (written_outcome PartlySurveyed ends.WriteFault) job source) bytes text s ends.WriteFault (inl (false, p)) same l
part_left bytes text job source s ends.NoMemory p same l = l

pub covering_left : (bytes text : List ℕ) (job : Job) (source : List ℕ) (s : SinkChange) (ended : Written) → IsCoveringOf job true source text
    → bytes ≡ text
    → LeavesText (λ t. t ≡ bytes) s (Some ended)
    → LeavesText (IsCoveringBy (written_outcome Covered ended) job source) s (written_of (written_outcome Covered ended))
covering_left bytes text job source s ends.Done p same l = left_as (IsCoveringOf job true source) bytes text s ends.Done p same l
covering_left bytes text job source s ends.WriteFault p same l =
    left_as (IsCoveringBy (written_outcome Covered ends.WriteFault) job source) bytes text s ends.WriteFault (inl (true, p)) same l
covering_left bytes text job source s ends.NoMemory p same l = l

pub covering_part_left : (bytes text : List ℕ) (job : Job) (source : List ℕ) (s : SinkChange) (ended : Written) → IsCoveringOf job false source text
    → bytes ≡ text
    → LeavesText (λ t. t ≡ bytes) s (Some ended)
    → LeavesText (IsCoveringBy (written_outcome PartlyCovered ended) job source) s (written_of (written_outcome PartlyCovered ended))
covering_part_left bytes text job source s ends.Done p same l = left_as (IsCoveringOf job false source) bytes text s ends.Done p same l
covering_part_left bytes text job source s ends.WriteFault p same l =
    left_as (IsCoveringBy (written_outcome PartlyCovered ends.WriteFault) job source) bytes text s ends.WriteFault (inl (false, p)) same l
covering_part_left bytes text job source s ends.NoMemory p same l = l

-- ---- answers to a task

pub asked_says : (v : Verdict) (o : ProveOutcome) (task : Task) (job : Job) (first second : List ℕ)
    → ((q : PlainQuestion) (job : Job) (text : List ℕ) → HasConstructiveVerdict text job.main q v → ClaimSays q o job text)
    → ((q : PlainQuestion) (text : List ℕ) → HasTextVerdict text q v → TextClaimSays q o text)
    → IsAnswer (answers.Asked v) task job first second → SaysOfTexts task o job first second
asked_says v o (Ask claim signal) job first second f t h = f (question_of claim signal job) job first h
asked_says v o (AskText claim signal) job first second f t h = t (question_of claim signal job) first h
asked_says v o others job first second f t h = absurd h

pub asked_out : (v : Verdict) (o : ProveOutcome) (s : SinkChange) (task : Task) (job : Job) (first second : List ℕ)
    → ((q : PlainQuestion) (job : Job) (text : List ℕ) → HasConstructiveVerdict text job.main q v → LeavesText (IsClaimTraceBy q o job text) s (written_of o))
    → ((q : PlainQuestion) (text : List ℕ) → HasTextVerdict text q v → LeavesText (IsTextRefutation q text) s (written_of o))
    → IsAnswer (answers.Asked v) task job first second → LeavesText (IsWrittenBy task o job first second) s (written_of o)
asked_out v o s (Ask claim signal) job first second f t h = f (question_of claim signal job) job first h
asked_out v o s (AskText claim signal) job first second f t h = t (question_of claim signal job) first h
asked_out v o s others job first second f t h = absurd h

pub surveyed_says : (v : Survey) (o : ProveOutcome) (task : Task) (job : Job) (first second : List ℕ)
    → ((job : Job) (text : List ℕ) → HasConstructiveSurvey text job.main job.assumed v → SurveySays o job text)
    → ((assumed : Option (List ℕ)) (text : List ℕ) → HasTextSurvey text assumed v → TextSurveySays o assumed text)
    → IsAnswer (answers.Surveyed v) task job first second → SaysOfTexts task o job first second
surveyed_says v o Surveys job first second f t h = f job first h
surveyed_says v o SurveyText job first second f t h = t job.assumed first h
surveyed_says v o others job first second f t h = absurd h

pub surveyed_out : (v : Survey) (o : ProveOutcome) (s : SinkChange) (task : Task) (job : Job) (first second : List ℕ)
    → ((job : Job) (text : List ℕ) → HasConstructiveSurvey text job.main job.assumed v → LeavesText (IsSurveyBy o job text) s (written_of o))
    → ((assumed : Option (List ℕ)) (text : List ℕ) → HasTextSurvey text assumed v → LeavesText (IsTextSurveyBy o assumed text) s (written_of o))
    → IsAnswer (answers.Surveyed v) task job first second → LeavesText (IsWrittenBy task o job first second) s (written_of o)
surveyed_out v o s Surveys job first second f t h = f job first h
surveyed_out v o s SurveyText job first second f t h = t job.assumed first h
surveyed_out v o s others job first second f t h = absurd h

pub covered_says : (v : Covering) (o : ProveOutcome) (task : Task) (job : Job) (first second : List ℕ)
    → ((job : Job) (text : List ℕ) → HasCovering text job.main job.assumed v → CoveringSays o job text)
    → IsAnswer (answers.Covered v) task job first second → SaysOfTexts task o job first second
covered_says v o Cover job first second f h = f job first h
covered_says v o others job first second f h = absurd h

pub covered_out : (v : Covering) (o : ProveOutcome) (s : SinkChange) (task : Task) (job : Job) (first second : List ℕ)
    → ((job : Job) (text : List ℕ) → HasCovering text job.main job.assumed v → LeavesText (IsCoveringBy o job text) s (written_of o))
    → IsAnswer (answers.Covered v) task job first second → LeavesText (IsWrittenBy task o job first second) s (written_of o)
covered_out v o s Cover job first second f h = f job first h
covered_out v o s others job first second f h = absurd h

pub compared_says : (v : Comparison) (o : ProveOutcome) (task : Task) (job : Job) (first second : List ℕ)
    → ((first second : List ℕ) (job : Job) → HasConstructiveComparison first second job.main v → ComparisonSays o job first second)
    → ((first second : List ℕ) → HasTextComparison first second v → TextComparisonSays o first second)
    → IsAnswer (answers.Compared v) task job first second → SaysOfTexts task o job first second
compared_says v o (Compare other) job first second f t h = f first second job h
compared_says v o (CompareTexts other) job first second f t h = t first second h
compared_says v o others job first second f t h = absurd h

pub compared_out : (v : Comparison) (o : ProveOutcome) (s : SinkChange) (task : Task) (job : Job) (first second : List ℕ)
    → ((first second : List ℕ) (job : Job) → HasConstructiveComparison first second job.main v
    → LeavesText (IsDistinctionBy o job first second) s (written_of o))
    → ((first second : List ℕ) → HasTextComparison first second v → LeavesText (IsTextDistinction first second) s (written_of o))
    → IsAnswer (answers.Compared v) task job first second → LeavesText (IsWrittenBy task o job first second) s (written_of o)
compared_out v o s (Compare other) job first second f t h = f first second job h
compared_out v o s (CompareTexts other) job first second f t h = t first second h
compared_out v o s others job first second f t h = absurd h

pub bad_text_says : (which : Which) (fault : BlifFault) (task : Task) (job : Job) (first second : List ℕ)
    → IsAnswer (answers.BadText which fault) task job first second → SaysOfTexts task (BadInput which (BadText fault)) job first second
bad_text_says First fault (AskText claim signal) job first second h = h
bad_text_says First fault SurveyText job first second h = h
bad_text_says First fault (CompareTexts other) job first second h = h
bad_text_says Second fault (CompareTexts other) job first second h = h
bad_text_says which fault others job first second h = absurd h

pub no_memory_says : (task : Task) (job : Job) (first second : List ℕ) → SaysOfTexts task NoMemory job first second
no_memory_says Cover job first second = tt
no_memory_says others job first second = tt

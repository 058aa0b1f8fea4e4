-- What the outcome of a source says that has no answer, and what is left of its trace in a sink.
use Rattle.std.proofs.Common.{List, ℕ, [], inr, refl, sym, subst}
use Rattle.base_types.specs.SinkChanges.{SinkChange}
use Rattle.base_types.specs.Writing.{Appends}
use Rattle.cec_compile.specs.declared.refusal.Refusal.{Refusal}
use Rattle.cec_compile.specs.declared.refusal.Refusal.TheVariants as refusing
use Rattle.cec_cycles.specs.Constructive.{IsOtherRefusal, IsRefusedConstructive, StandsForStuck}
use Rattle.cec_cycles.specs.declared.findings.CycleRefusal.{CycleRefusal}
use Rattle.cec_cycles.specs.declared.findings.CycleRefusal.TheVariants as causes
use Rattle.cec_cycles.specs.declared.findings.Stuck.{Stuck}
use Rattle.cec_text_io.specs.Writings.{LeavesText}
use Rattle.cec_prove_sources.specs.Verdicts.{PlainQuestion}
use Rattle.cec_prove_commands.specs.Answers.{IsAnswer, IsWrittenBy, SaysOfTexts}
use Rattle.cec_prove_commands.specs.Outcomes.{ClaimSays, ComparisonSays, CoveringSays, HasConstructive, IsClaimTraceBy, IsCoveringBy, IsDistinctionBy}
use Rattle.cec_prove_commands.specs.Outcomes.{IsSurveyBy, SourceFaultSays, SourcesFaultSays, SurveySays, question_of}
use Rattle.cec_prove_commands.specs.Statuses.{refusal_outcome, written_of}
use Rattle.cec_prove_commands.specs.Stopping.{IsRefusedOutcome}
use Rattle.cec_prove_commands.specs.Words.{Job, Task, Ask, Survey, Cover, Compare}
use Rattle.cec_prove_commands.specs.declared.answers.Answer.TheVariants as answers
use Rattle.cec_prove_commands.specs.declared.outcome.InputFault.{InputFault}
use Rattle.cec_prove_commands.specs.declared.outcome.InputFault.TheVariants.{Refused, NotConstructive, UndecidedCycle, TooManyNets}
use Rattle.cec_prove_commands.specs.declared.outcome.ProveOutcome.{ProveOutcome}
use Rattle.cec_prove_commands.specs.declared.outcome.ProveOutcome.TheVariants.{BadInput, WriteFault, NoMemory}
use Rattle.cec_words.specs.declared.common.Which.{Which}
use Rattle.cec_words.specs.declared.common.Which.TheVariants.{First, Second}
use Rattle.cec_prove_commands.proofs.Answering.{as_written, lines_left}

-- ---- each cause

-- what is so of each outcome that such a source can have
record RefusedAs (which : Which) (job : Job) (text : List ℕ) (Says : ProveOutcome → Type 0) : Type 0 where
  faulty : (fault : InputFault) → SourceFaultSays fault job text → Says (BadInput which fault)
  unwritten : (stuck : Stuck) → StandsForStuck text job.main stuck → Says WriteFault
  none : Says NoMemory

-- a cause that is no cycle
other_as : (which : Which) (refusal : Refusal) (job : Job) (text : List ℕ) (Says : ProveOutcome → Type 0) → RefusedAs which job text Says
    → IsOtherRefusal text job.main refusal → Says (refusal_outcome which refusal)
other_as which (refusing.Static fault) job text Says so is = so.faulty (Refused (refusing.Static fault)) is
other_as which (refusing.Cyclic cycle) job text Says so is = absurd is
other_as which (refusing.Limit limit) job text Says so is = so.faulty (Refused (refusing.Limit limit)) is
other_as which refusing.NoMemory job text Says so is = so.none

refused_as : (which : Which) (refusal : CycleRefusal) (job : Job) (text : List ℕ) (Says : ProveOutcome → Type 0) (s : SinkChange) (outcome : ProveOutcome)
    → RefusedAs which job text Says → IsRefusedConstructive text job.main refusal → IsRefusedOutcome which refusal s outcome → Says outcome
refused_as which (causes.Source refusal) job text Says s outcome so is o = subst Says (sym o.is) (other_as which refusal job text Says so is)
refused_as which (causes.NotConstructive stuck) job text Says s outcome so is o =
    subst Says (sym o.is)
    (as_written (BadInput which (NotConstructive stuck)) Says o.ended (so.faulty (NotConstructive stuck) is) (so.unwritten stuck is) so.none)
refused_as which (causes.Undecided cycle) job text Says s outcome so is o = subst Says (sym o.is) (so.faulty (UndecidedCycle cycle) is)
refused_as which (causes.TooManyNets cycle) job text Says s outcome so is o = subst Says (sym o.is) (so.faulty (TooManyNets cycle) is)

refusal_leaves : (which : Which) (refusal : Refusal) (P : List ℕ → Type 0) (s : SinkChange)
    → Appends s.before s.after s.faults_before s.faults_now [] → LeavesText P s (written_of (refusal_outcome which refusal))
refusal_leaves which (refusing.Static fault) P s a = a
refusal_leaves which (refusing.Cyclic cycle) P s a = a
refusal_leaves which (refusing.Limit limit) P s a = a
refusal_leaves which refusing.NoMemory P s a = a

refused_left : (which : Which) (refusal : CycleRefusal) (job : Job) (text : List ℕ) (By : ProveOutcome → List ℕ → Type 0) (s : SinkChange)
    (outcome : ProveOutcome)
    → ((stuck : Stuck) → StandsForStuck text job.main stuck → By (BadInput which (NotConstructive stuck)) stuck.trace.items)
    → ((stuck : Stuck) → StandsForStuck text job.main stuck → By WriteFault stuck.trace.items)
    → IsRefusedConstructive text job.main refusal → IsRefusedOutcome which refusal s outcome → LeavesText (By outcome) s (written_of outcome)
refused_left which (causes.Source refusal) job text By s outcome all part is o =
    subst (λ (x : ProveOutcome). LeavesText (By x) s (written_of x)) (sym o.is)
    (refusal_leaves which refusal (By (refusal_outcome which refusal)) s o.silent)
refused_left which (causes.NotConstructive stuck) job text By s outcome all part is o =
    subst (λ (x : ProveOutcome). LeavesText (By x) s (written_of x)) (sym o.is)
    (lines_left (BadInput which (NotConstructive stuck)) By stuck.trace.items stuck.trace.items s o.ended refl (all stuck is) (part stuck is) refl
    o.leaves)
refused_left which (causes.Undecided cycle) job text By s outcome all part is o =
    subst (λ (x : ProveOutcome). LeavesText (By x) s (written_of x)) (sym o.is) o.silent
refused_left which (causes.TooManyNets cycle) job text By s outcome all part is o =
    subst (λ (x : ProveOutcome). LeavesText (By x) s (written_of x)) (sym o.is) o.silent

-- ---- the outcome of a task

claim_as : (q : PlainQuestion) (job : Job) (text : List ℕ) → RefusedAs First job text (λ o. ClaimSays q o job text)
claim_as q job text = record { faulty = λ fault is. is; unwritten = λ stuck is. inr (stuck, is); none = tt }

survey_as : (job : Job) (text : List ℕ) → RefusedAs First job text (λ o. SurveySays o job text)
survey_as job text = record { faulty = λ fault is. is; unwritten = λ stuck is. inr (stuck, is); none = tt }

covering_as : (job : Job) (text : List ℕ) → RefusedAs First job text (λ o. CoveringSays o job text)
covering_as job text = record { faulty = λ fault is. is; unwritten = λ stuck is. inr (stuck, is); none = tt }

first_as : (job : Job) (first second : List ℕ) → RefusedAs First job first (λ o. ComparisonSays o job first second)
first_as job first second = record { faulty = λ fault is. is; unwritten = λ stuck is. inr (First, stuck, is); none = tt }

second_fault : (fault : InputFault) (job : Job) (first second : List ℕ) → HasConstructive job first → SourceFaultSays fault job second
    → SourcesFaultSays Second fault job first second
second_fault (Refused refusal) job first second one is = is
second_fault others job first second one is = (one, is)

second_as : (job : Job) (first second : List ℕ) → HasConstructive job first → RefusedAs Second job second (λ o. ComparisonSays o job first second)
second_as job first second one = record {
  faulty = λ fault is. second_fault fault job first second one is;
  unwritten = λ stuck is. inr (Second, stuck, (one, is));
  none = tt;
}

pub refused_says : (which : Which) (refusal : CycleRefusal) (s : SinkChange) (o : ProveOutcome) (task : Task) (job : Job) (first second : List ℕ)
    → IsRefusedOutcome which refusal s o → IsAnswer (answers.Refused which refusal) task job first second → SaysOfTexts task o job first second
refused_says First refusal s o (Ask claim signal) job first second ends h =
    let q = question_of claim signal job in refused_as First refusal job first (λ x. ClaimSays q x job first) s o (claim_as q job first) h ends
refused_says First refusal s o Survey job first second ends h =
    refused_as First refusal job first (λ x. SurveySays x job first) s o (survey_as job first) h ends
refused_says First refusal s o Cover job first second ends h =
    refused_as First refusal job first (λ x. CoveringSays x job first) s o (covering_as job first) h ends
refused_says First refusal s o (Compare other) job first second ends h =
    refused_as First refusal job first (λ x. ComparisonSays x job first second) s o (first_as job first second) h ends
refused_says Second refusal s o (Compare other) job first second ends h =
    refused_as Second refusal job second (λ x. ComparisonSays x job first second) s o (second_as job first second h.0) h.1 ends
refused_says which refusal s o others job first second ends h = absurd h

pub refused_out : (which : Which) (refusal : CycleRefusal) (s : SinkChange) (o : ProveOutcome) (task : Task) (job : Job) (first second : List ℕ)
    → IsRefusedOutcome which refusal s o → IsAnswer (answers.Refused which refusal) task job first second
    → LeavesText (IsWrittenBy task o job first second) s (written_of o)
refused_out First refusal s o (Ask claim signal) job first second ends h =
    refused_left First refusal job first (λ x. IsClaimTraceBy (question_of claim signal job) x job first) s o (λ stuck is. refl)
    (λ stuck is. inr (stuck, is, refl)) h ends
refused_out First refusal s o Survey job first second ends h =
    refused_left First refusal job first (λ x. IsSurveyBy x job first) s o (λ stuck is. refl) (λ stuck is. inr (stuck, is, refl)) h ends
refused_out First refusal s o Cover job first second ends h =
    refused_left First refusal job first (λ x. IsCoveringBy x job first) s o (λ stuck is. refl) (λ stuck is. inr (stuck, is, refl)) h ends
refused_out First refusal s o (Compare other) job first second ends h =
    refused_left First refusal job first (λ x. IsDistinctionBy x job first second) s o (λ stuck is. refl)
    (λ stuck is. inr (First, stuck, is, refl)) h ends
refused_out Second refusal s o (Compare other) job first second ends h =
    refused_left Second refusal job second (λ x. IsDistinctionBy x job first second) s o (λ stuck is. refl)
    (λ stuck is. inr (Second, stuck, (h.0, is), refl)) h.1 ends
refused_out which refusal s o others job first second ends h = absurd h

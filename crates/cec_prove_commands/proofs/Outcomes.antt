-- What the answers of the steps say of the whole call.
use Rattle.std.specs.declared.alloc.Global.{Global}
use Rattle.std.proofs.Common.{◌≡◌, ◌≤◌, ℕ, Bool, true, false, List, [], length, Option, None, Some, Ok, Err, Result, Vec, refl, sym, subst, arith}
use Rattle.base_types.specs.declared.bounds.TheConstants.Limits.{SOURCE_BYTES, TEXT_BYTES}
use Rattle.base_types.specs.declared.files.reading.FileFault as unread
use Rattle.base_types.specs.declared.files.reading.FileFault.TheVariants as reading
use Rattle.base_types.specs.Reading.{Reads, Counts, KeepsFaults}
use Rattle.base_types.specs.SinkChanges.{SinkChange}
use Rattle.base_types.specs.Writing.{Appends}
use Rattle.cec_compile.specs.declared.refusal.Refusal as refusals
use Rattle.cec_compile.specs.declared.refusal.Refusal.TheVariants as refusing
use Rattle.cec_text_io.proofs.Pieces as texts
use Rattle.cec_text_io.proofs.Exports.{long_unread, some_bytes}
use Rattle.cec_text_io.specs.Contents.{Content, IsHeld}
use Rattle.cec_text_io.specs.ErrorLines.{GainsLine}
use Rattle.cec_text_io.specs.Writings.{LeavesText}
use Rattle.cec_text_io.specs.declared.writing.Written.{Written}
use Rattle.cec_text_io.specs.declared.writing.Written.TheVariants as ends
use Rattle.cec_prove_commands.specs.Answers.{AreHeld, GainsAll, IsWrittenBy, SaysOfTexts, byte_limit}
use Rattle.cec_prove_commands.specs.Lines.{GainsJobErr, SpeaksOf, Subject, job_subject, line_of, most_further, second_of, which_of}
use Rattle.cec_prove_commands.specs.Outcomes.{AgreesOnTexts}
use Rattle.cec_prove_commands.specs.Outcomes.{AgreesOnFile, AgreesOnFiles, AgreesOnTask, ClaimSays, ComparisonSays, CountsFiles, CountsJob, IsDistinctionBy}
use Rattle.cec_prove_commands.specs.Outcomes.{IsClaimTraceBy, IsSurveyBy, IsTextOf, IsWriting, SurveySays, question_of}
use Rattle.cec_prove_commands.specs.Outcomes.{CoveringSays, IsCoveringBy}
use Rattle.cec_prove_commands.specs.Statuses.{written_outcome, unread_outcome, written_of}
use Rattle.cec_prove_commands.specs.TextOutcomes.{IsTextDistinction, IsTextRefutation, IsTextSurveyBy, TextClaimSays, TextComparisonSays, TextSurveySays}
use Rattle.cec_prove_commands.specs.Views.{spoken_of, spoken_source}
use Rattle.cec_prove_commands.specs.Words.{Job, Request, Task, Ask, Survey, Cover, Compare, AskText, SurveyText, CompareTexts, is_comparison}
use Rattle.cec_prove_commands.specs.Words.{is_of_texts}
use Rattle.cec_prove_commands.specs.declared.outcome.InputFault.{InputFault}
use Rattle.cec_prove_commands.specs.declared.outcome.InputFault.TheVariants.{Unread, Refused, TooLong}
use Rattle.cec_prove_commands.specs.declared.outcome.ProveOutcome.{ProveOutcome}
use Rattle.cec_prove_commands.specs.declared.outcome.ProveOutcome.TheVariants.{Told, BadInput}
use Rattle.cec_words.specs.declared.common.Which.{Which}
use Rattle.cec_words.specs.declared.common.Which.TheVariants.{First, Second}

-- ---- what the program writes about itself

pub told_writes : (ended : Written) → IsWriting (written_outcome Told ended)
told_writes ends.Done = tt
told_writes ends.WriteFault = tt
told_writes ends.NoMemory = tt

pub told_leaves : (ended : Written) (P : List ℕ → Type 0) (s : SinkChange) → LeavesText P s (Some ended)
    → LeavesText P s (written_of (written_outcome Told ended))
told_leaves ends.Done P s l = l
told_leaves ends.WriteFault P s l = l
told_leaves ends.NoMemory P s l = l

-- ---- files that were read

-- no file was left unread
pub record IsRead (outcome : ProveOutcome) : Type 0 where
  pub first : outcome ≡ BadInput First Unread → ⊥
  pub second : outcome ≡ BadInput Second Unread → ⊥

-- an outcome of which something is so that is of no such fault
read_as : (Says : ProveOutcome → Type 0) (outcome : ProveOutcome) → (Says (BadInput First Unread) → ⊥) → (Says (BadInput Second Unread) → ⊥)
    → Says outcome → IsRead outcome
read_as Says outcome first second says = record { first = λ is. first (subst Says is says); second = λ is. second (subst Says is says) }

pub texts_read : (task : Task) (outcome : ProveOutcome) (job : Job) (first second : List ℕ) → SaysOfTexts task outcome job first second → IsRead outcome
texts_read (Ask claim signal) outcome job first second says =
    read_as (λ o. ClaimSays (question_of claim signal job) o job first) outcome (λ none. none) (λ none. none) says
texts_read Survey outcome job first second says = read_as (λ o. SurveySays o job first) outcome (λ none. none) (λ none. none) says
texts_read Cover outcome job first second says = read_as (λ o. CoveringSays o job first) outcome (λ none. none) (λ none. none) says
texts_read (Compare other) outcome job first second says =
    read_as (λ o. ComparisonSays o job first second) outcome (λ none. none) (λ none. none.1) says
texts_read (AskText claim signal) outcome job first second says =
    read_as (λ o. TextClaimSays (question_of claim signal job) o first) outcome (λ none. none) (λ none. none) says
texts_read SurveyText outcome job first second says = read_as (λ o. TextSurveySays o job.assumed first) outcome (λ none. none) (λ none. none) says
texts_read (CompareTexts other) outcome job first second says =
    read_as (λ o. TextComparisonSays o first second) outcome (λ none. none) (λ none. none) says

pub read_counts : (job : Job) (outcome : ProveOutcome) (before now : ℕ) (failed_before failed_now : List ℕ) → IsRead outcome
    → KeepsFaults before now failed_before failed_now → CountsJob job outcome before now failed_before failed_now
read_counts job (BadInput First Unread) before now failed_before failed_now read k = absurd (read.first refl)
read_counts job (BadInput Second Unread) before now failed_before failed_now read k = absurd (read.second refl)
read_counts job others before now failed_before failed_now read k = k

pub file_agrees : (content : Content) (name : List ℕ) (Says : ProveOutcome → List ℕ → Type 0) (outcome : ProveOutcome) (text : List ℕ)
    → IsHeld content name text → Says outcome text → AgreesOnFile content name Says outcome
file_agrees content name Says (BadInput First Unread) text held says = tt
file_agrees content name Says others text held says = (text, held, says)

pub files_agree : (content : Content) (job : Job) (other : List ℕ) (outcome : ProveOutcome) (first second : List ℕ) → IsHeld content job.name first
    → IsHeld content other second → ComparisonSays outcome job first second → AgreesOnFiles content job other outcome
files_agree content job other (BadInput which Unread) first second held held' says = tt
files_agree content job other (BadInput First (Refused refusal)) first second held held' says = (first, held, says)
files_agree content job other (BadInput Second (Refused refusal)) first second held held' says = (second, held', says)
files_agree content job other others first second held held' says = (first, held, (second, held', says))

pub texts_both_agree : (content : Content) (job : Job) (other : List ℕ) (outcome : ProveOutcome) (first second : List ℕ) → IsHeld content job.name first
    → IsHeld content other second → TextComparisonSays outcome first second → AgreesOnTexts content job other outcome
texts_both_agree content job other (BadInput which Unread) first second held held' says = tt
texts_both_agree content job other (BadInput First TooLong) first second held held' says = (first, held, says)
texts_both_agree content job other (BadInput Second TooLong) first second held held' says = (second, held', says)
texts_both_agree content job other others first second held held' says = (first, held, (second, held', says))

-- where no source is refused, none is spoken of
pub text_speaks : (content : Content) (job : Job) (outcome : ProveOutcome)
    → ((which : Which) (refusal : refusals.Refusal) → outcome ≡ BadInput which (Refused refusal) → ⊥) → SpeaksOf content job outcome []
text_speaks content job (BadInput which (Refused (refusing.Static fault))) unrefused = absurd (unrefused which (refusing.Static fault) refl)
text_speaks content job others unrefused = tt

-- the source that is spoken of is held, the second one where it has a fault
pub read_speaks : (content : Content) (job : Job) (outcome : ProveOutcome) (first second : List ℕ) → IsHeld content job.name first
    → ((fault : InputFault) → outcome ≡ BadInput Second fault → IsHeld content (second_of job.task) second)
    → SpeaksOf content job outcome (spoken_source outcome first second)
read_speaks content job (BadInput First (Refused (refusing.Static fault))) first second held second_held = held
read_speaks content job (BadInput Second (Refused (refusing.Static fault))) first second held second_held =
    second_held (Refused (refusing.Static fault)) refl
read_speaks content job others first second held second_held = tt

pub held_short : (content : Content) (name : List ℕ) (limit : ℕ) (bytes : Vec ℕ Global) → Reads content name limit (Ok bytes)
    → IsHeld content name bytes.items × (length bytes.items ≤ limit)
held_short None name limit bytes read = (tt, read)
held_short (Some held) name limit bytes read = (read.0, subst (λ (b : List ℕ). length b ≤ limit) (sym read.0) read.1)

-- ---- files that were not read

pub sources_unread_agree : (which : Which) (content : Content) (job : Job) (other : List ℕ) (fault : unread.FileFault)
    → Reads content (which_of which job.name other) SOURCE_BYTES (Err fault) → AgreesOnFiles content job other (unread_outcome which false fault)
sources_unread_agree which content job other reading.Failed read = tt
sources_unread_agree which content job other reading.TooLong read = long_unread content (which_of which job.name other) SOURCE_BYTES read
sources_unread_agree which content job other reading.NoMemory read =
    let some = some_bytes content job.name in (some.0, some.1, some_bytes content other)

pub texts_unread_agree : (which : Which) (content : Content) (job : Job) (other : List ℕ) (fault : unread.FileFault)
    → Reads content (which_of which job.name other) TEXT_BYTES (Err fault) → AgreesOnTexts content job other (unread_outcome which true fault)
texts_unread_agree which content job other reading.Failed read = tt
texts_unread_agree which content job other reading.TooLong read = long_unread content (which_of which job.name other) TEXT_BYTES read
texts_unread_agree which content job other reading.NoMemory read =
    let some = some_bytes content job.name in (some.0, some.1, some_bytes content other)

pub unread_agrees : (content : Content) (task : Task) (job : Job) (fault : unread.FileFault)
    → Reads content job.name (byte_limit (is_of_texts task)) (Err fault) → AgreesOnTask task content job (unread_outcome First (is_of_texts task) fault)
unread_agrees content (Compare other) job fault read = sources_unread_agree First content job other fault read
unread_agrees content (CompareTexts other) job fault read = texts_unread_agree First content job other fault read
unread_agrees content others job reading.Failed read = tt
unread_agrees content (AskText claim signal) job reading.TooLong read = long_unread content job.name TEXT_BYTES read
unread_agrees content SurveyText job reading.TooLong read = long_unread content job.name TEXT_BYTES read
unread_agrees content others job reading.TooLong read = long_unread content job.name SOURCE_BYTES read
unread_agrees content others job reading.NoMemory read = some_bytes content job.name

pub unread_counts : (which : Which) (of_texts : Bool) (job : Job) (fault : unread.FileFault) (before now : ℕ) (failed_before failed_now : List ℕ)
    → Counts before now failed_before failed_now (which_of which job.name (second_of job.task)) (Err fault)
    → CountsJob job (unread_outcome which of_texts fault) before now failed_before failed_now
unread_counts which of_texts job reading.Failed before now failed_before failed_now k = k
unread_counts which true job reading.TooLong before now failed_before failed_now k = k
unread_counts which false job reading.TooLong before now failed_before failed_now k = k
unread_counts which of_texts job reading.NoMemory before now failed_before failed_now k = k

pub unread_out : (which : Which) (of_texts : Bool) (P : List ℕ → Type 0) (fault : unread.FileFault) (s : SinkChange)
    → Appends s.before s.after s.faults_before s.faults_now [] → LeavesText P s (written_of (unread_outcome which of_texts fault))
unread_out which of_texts P reading.Failed s a = a
unread_out which true P reading.TooLong s a = a
unread_out which false P reading.TooLong s a = a
unread_out which of_texts P reading.NoMemory s a = a

unread_speaks : (which : Which) (of_texts : Bool) (content : Content) (job : Job) (fault : unread.FileFault) (source : List ℕ)
    → SpeaksOf content job (unread_outcome which of_texts fault) source
unread_speaks which of_texts content job reading.Failed source = tt
unread_speaks which true content job reading.TooLong source = tt
unread_speaks which false content job reading.TooLong source = tt
unread_speaks which of_texts content job reading.NoMemory source = tt

-- ---- the outcome of a task about texts, in the words of the whole call

-- nothing was read
pub kept : (before : ℕ) (failed : List ℕ) → KeepsFaults before before failed failed
kept before failed = record { faults = refl; failed = refl }

pub one_held : (content : Content) (task : Task) (job : Job) (first second : List ℕ) → is_comparison task ≡ false → IsHeld content job.name first
    → AreHeld content task job first second
one_held content (Compare other) job first second one held = absurd (cc)
one_held content (CompareTexts other) job first second one held = absurd (cc)
one_held content others job first second one held = held

pub both_held : (content : Content) (task : Task) (job : Job) (first second name read : List ℕ) → is_comparison task ≡ true
    → IsHeld content job.name first → name ≡ second_of task → second ≡ read → IsHeld content name read → AreHeld content task job first second
both_held content (Compare other) job first second name read two held same is held' =
    (held, subst (λ n. IsHeld content n second) same (subst (IsHeld content name) (sym is) held'))
both_held content (CompareTexts other) job first second name read two held same is held' =
    (held, subst (λ n. IsHeld content n second) same (subst (IsHeld content name) (sym is) held'))
both_held content others job first second name read two held same is held' = absurd (cc)

pub texts_agree : (content : Content) (task : Task) (job : Job) (outcome : ProveOutcome) (first second : List ℕ) → AreHeld content task job first second
    → SaysOfTexts task outcome job first second → AgreesOnTask task content job outcome
texts_agree content (Ask claim signal) job outcome first second held says =
    file_agrees content job.name (λ o t. ClaimSays (question_of claim signal job) o job t) outcome first held says
texts_agree content Survey job outcome first second held says = file_agrees content job.name (λ o t. SurveySays o job t) outcome first held says
texts_agree content Cover job outcome first second held says = file_agrees content job.name (λ o t. CoveringSays o job t) outcome first held says
texts_agree content (Compare other) job outcome first second held says = files_agree content job other outcome first second held.0 held.1 says
texts_agree content (AskText claim signal) job outcome first second held says =
    file_agrees content job.name (λ o t. TextClaimSays (question_of claim signal job) o t) outcome first held says
texts_agree content SurveyText job outcome first second held says =
    file_agrees content job.name (λ o t. TextSurveySays o job.assumed t) outcome first held says
texts_agree content (CompareTexts other) job outcome first second held says =
    texts_both_agree content job other outcome first second held.0 held.1 says

pub texts_out : (content : Content) (task : Task) (job : Job) (outcome : ProveOutcome) (first second : List ℕ) (s : SinkChange)
    → AreHeld content task job first second → LeavesText (IsWrittenBy task outcome job first second) s (written_of outcome)
    → LeavesText (IsTextOf task job content outcome) s (written_of outcome)
texts_out content (Ask claim signal) job outcome first second s held l =
    texts.text_as (IsClaimTraceBy (question_of claim signal job) outcome job first) (IsTextOf (Ask claim signal) job content outcome) s (written_of outcome)
    (λ trace of. (first, held, of)) l
texts_out content Survey job outcome first second s held l =
    texts.text_as (IsSurveyBy outcome job first) (IsTextOf Survey job content outcome) s (written_of outcome) (λ lines of. (first, held, of)) l
texts_out content Cover job outcome first second s held l =
    texts.text_as (IsCoveringBy outcome job first) (IsTextOf Cover job content outcome) s (written_of outcome) (λ lines of. (first, held, of)) l
texts_out content (Compare other) job outcome first second s held l =
    texts.text_as (IsDistinctionBy outcome job first second) (IsTextOf (Compare other) job content outcome) s (written_of outcome)
    (λ trace of. (first, held.0, (second, held.1, of))) l
texts_out content (AskText claim signal) job outcome first second s held l =
    texts.text_as (IsTextRefutation (question_of claim signal job) first) (IsTextOf (AskText claim signal) job content outcome) s (written_of outcome)
    (λ trace of. (first, held, of)) l
texts_out content SurveyText job outcome first second s held l =
    texts.text_as (IsTextSurveyBy outcome job.assumed first) (IsTextOf SurveyText job content outcome) s (written_of outcome)
    (λ lines of. (first, held, of)) l
texts_out content (CompareTexts other) job outcome first second s held l =
    texts.text_as (IsTextDistinction first second) (IsTextOf (CompareTexts other) job content outcome) s (written_of outcome)
    (λ trace of. (first, held.0, (second, held.1, of))) l

unrefused : (which : Which) (refusal : refusals.Refusal) (Says : ProveOutcome → Type 0) → (Says (BadInput First (Refused refusal)) → ⊥)
    → (Says (BadInput Second (Refused refusal)) → ⊥) → (outcome : ProveOutcome) → outcome ≡ BadInput which (Refused refusal) → Says outcome → ⊥
unrefused First refusal Says first second outcome is says = first (subst Says is says)
unrefused Second refusal Says first second outcome is says = second (subst Says is says)

texts_speak : (content : Content) (task : Task) (job : Job) (outcome : ProveOutcome) (first second : List ℕ) → job.task ≡ task
    → AreHeld content task job first second → SaysOfTexts task outcome job first second
    → SpeaksOf content job outcome (spoken_of (is_of_texts task) outcome first second)
texts_speak content (Ask claim signal) job outcome first second is held says =
    read_speaks content job outcome first second held
    (λ fault ends. absurd (subst (λ o. ClaimSays (question_of claim signal job) o job first) ends says))
texts_speak content Survey job outcome first second is held says =
    read_speaks content job outcome first second held (λ fault ends. absurd (subst (λ o. SurveySays o job first) ends says))
texts_speak content Cover job outcome first second is held says =
    read_speaks content job outcome first second held (λ fault ends. absurd (subst (λ o. CoveringSays o job first) ends says))
texts_speak content (Compare other) job outcome first second is held says =
    read_speaks content job outcome first second held.0 (λ fault ends. subst (λ t. IsHeld content (second_of t) second) (sym is) held.1)
texts_speak content (AskText claim signal) job outcome first second is held says =
    let q = question_of claim signal job in
    text_speaks content job outcome
    (λ which refusal ends. unrefused which refusal (λ o. TextClaimSays q o first) (λ none. none) (λ none. none) outcome ends says)
texts_speak content SurveyText job outcome first second is held says =
    text_speaks content job outcome
    (λ which refusal ends. unrefused which refusal (λ o. TextSurveySays o job.assumed first) (λ none. none) (λ none. none) outcome ends says)
texts_speak content (CompareTexts other) job outcome first second is held says =
    text_speaks content job outcome
    (λ which refusal ends. unrefused which refusal (λ o. TextComparisonSays o first second) (λ none. none) (λ none. none) outcome ends says)

pub texts_err : (progress : Bool) (content : Content) (job : Job) (outcome : ProveOutcome) (first second : List ℕ) (s : SinkChange)
    → AreHeld content job.task job first second → SaysOfTexts job.task outcome job first second
    → GainsAll progress s (line_of (job_subject job (spoken_of (is_of_texts job.task) outcome first second)) outcome)
    → GainsJobErr progress job content outcome s.before s.after s.faults_before s.faults_now
texts_err progress content job outcome first second s held says all = record {
  source = spoken_of (is_of_texts job.task) outcome first second;
  held = texts_speak content job.task job outcome first second refl held says;
  further = all.further;
  few = all.few;
  gains = all.gains;
}

-- ---- the outcome of a file that was not read

no-further : (progress : Bool) → 0 ≤ most_further progress
no-further true = omega arith
no-further false = omega arith

pub unread_err : (which : Which) (progress of_texts : Bool) (content : Content) (job : Job) (fault : unread.FileFault) (outcome : ProveOutcome)
    (subject : Subject) (source : List ℕ) (old new : Option (List ℕ)) (before now : ℕ) → outcome ≡ unread_outcome which of_texts fault
    → subject ≡ job_subject job source → GainsLine old new before now (line_of subject outcome)
    → GainsJobErr progress job content outcome old new before now
unread_err which progress of_texts content job fault outcome subject source old new before now is about gains = record {
  source = source;
  held = subst (λ o. SpeaksOf content job o source) (sym is) (unread_speaks which of_texts content job fault source);
  further = 0;
  few = no-further progress;
  gains = subst (λ s. GainsLine old new before now (line_of s outcome)) about gains;
}

pub second_agrees : (content : Content) (task : Task) (job : Job) (name : List ℕ) (fault : unread.FileFault) → is_comparison task ≡ true
    → name ≡ second_of task → Reads content name (byte_limit (is_of_texts task)) (Err fault)
    → AgreesOnTask task content job (unread_outcome Second (is_of_texts task) fault)
second_agrees content (Compare other) job name fault two same read =
    sources_unread_agree Second content job other fault (subst (λ n. Reads content n SOURCE_BYTES (Err fault)) same read)
second_agrees content (CompareTexts other) job name fault two same read =
    texts_unread_agree Second content job other fault (subst (λ n. Reads content n TEXT_BYTES (Err fault)) same read)
second_agrees content others job name fault two same read = absurd (cc)

pub second_counts : (of_texts : Bool) (job : Job) (name : List ℕ) (fault : unread.FileFault) (before now : ℕ) (failed_before failed_now : List ℕ)
    → name ≡ second_of job.task → Counts before now failed_before failed_now name (Err fault)
    → CountsJob job (unread_outcome Second of_texts fault) before now failed_before failed_now
second_counts of_texts job name fault before now failed_before failed_now same counts =
    unread_counts Second of_texts job fault before now failed_before failed_now
    (subst (λ n. Counts before now failed_before failed_now n (Err fault)) same counts)

-- what was counted after a read that kept the counts
pub counts-later : (asked : Result Request (List ℕ)) (outcome : ProveOutcome) (before middle now : ℕ) (failed_before failed_middle failed_now : List ℕ)
    → KeepsFaults before middle failed_before failed_middle → CountsFiles asked outcome middle now failed_middle failed_now
    → CountsFiles asked outcome before now failed_before failed_now
counts-later asked outcome before middle now failed_before failed_middle failed_now kept counts =
    subst (λ n. CountsFiles asked outcome n now failed_before failed_now) kept.faults
    (subst (λ (f : List ℕ). CountsFiles asked outcome middle now f failed_now) kept.failed counts)

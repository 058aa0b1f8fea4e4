-- What the answers of the steps say of the whole call.
use Rattle.std.proofs.Common.{◌≡◌, ℕ, ◌≤◌, ◌⊎◌, List, [], ◌++◌, length, Option, None, Some, Err, refl, sym, ap, subst}
use Rattle.std.specs.Prelude.{codes, unwrap_or}
use Rattle.base_types.specs.declared.bounds.TheConstants.Limits.{SOURCE_BYTES}
use Rattle.base_types.specs.declared.files.reading.FileFault.{FileFault}
use Rattle.base_types.specs.declared.files.reading.FileFault.TheVariants as reading
use Rattle.base_types.specs.Reading.{Reads, Counts, KeepsFaults}
use Rattle.base_types.specs.Writing.{Appends, Stops}
use Rattle.base_types.specs.SinkChanges.{SinkChange}
use Rattle.cec_commands.specs.declared.jobs.Task.{Task}
use Rattle.cec_commands.specs.declared.outcome.Outcome.{Outcome}
use Rattle.cec_commands.specs.declared.outcome.Outcome.TheVariants.{Done, Usage, FileFault as Unread, Static, Cyclic, Trace, BadText, Limit, WriteFault}
use Rattle.cec_commands.specs.declared.outcome.Outcome.TheVariants.{NoMemory}
use Rattle.cec_commands.specs.declared.outcome.Outcome.TheVariants.{NotConstructive}
use Rattle.cec_words.specs.declared.common.Which.TheVariants.{First}
use Rattle.cec_compile.specs.declared.refusal.Limit as bounds
use Rattle.cec_compile.specs.declared.refusal.Limit.TheVariants as limits
use Rattle.cec_compile.specs.declared.refusal.Refusal as refused
use Rattle.cec_compile.specs.declared.refusal.Refusal.TheVariants as refusals
use Rattle.cec_commands.specs.Answers.{IsAnswer}
use Rattle.cec_text_io.specs.Contents.{Content, IsHeld}
use Rattle.cec_text_io.proofs.Exports.{long_unread, some_bytes, held_by, held_told}
use Rattle.cec_commands.specs.Jobs.{Job, Request, Help, Make, Run, RunTri, Exec, Generate, Load}
use Rattle.cec_commands.specs.Lines.{Subject, line_of, IsSourceSubject, IsSubjectOf, GainsErr}
use Rattle.cec_commands.specs.Outcomes.{MakesOn, IsOutcomeOf, IsFileOf, CountsFiles, OutcomeLeavesText, LeavesAnswer, IsTextOf, GainsOut}
use Rattle.cec_compile.specs.Refusals.{IsRefused}
use Rattle.cec_commands.specs.Statuses.{outcome_of}
use Rattle.cec_commands.specs.Subjects.{unread_outcome}
use Rattle.cec_commands.proofs.Pieces.{answer_as, unread_answer}

-- ---- a source that was read

pub make_agrees : (content : Content) (task : Task) (job : Job) (outcome : Outcome) (bytes : List ℕ) → IsHeld content job.name bytes
    → MakesOn job.main outcome bytes
    → IsOutcomeOf (Some (Make task job)) content outcome
make_agrees content task job Usage bytes held m = absurd m
make_agrees content task job (Unread file) bytes held m = absurd m
make_agrees content task job (Trace fault) bytes held m = absurd m
make_agrees content task job (BadText fault) bytes held m = absurd m
make_agrees content task job (NotConstructive wires) bytes held m = absurd m
make_agrees content task job _ bytes held m = (bytes, held, m)

pub make_counts : (task : Task) (job : Job) (outcome : Outcome) (bytes : List ℕ) (before now : ℕ) (failed_before failed_now : List ℕ)
    → MakesOn job.main outcome bytes
    → KeepsFaults before now failed_before failed_now → CountsFiles (Some (Make task job)) outcome before now failed_before failed_now
make_counts task job Usage bytes before now failed_before failed_now m k = absurd m
make_counts task job (Unread file) bytes before now failed_before failed_now m k = absurd m
make_counts task job (Trace fault) bytes before now failed_before failed_now m k = absurd m
make_counts task job (BadText fault) bytes before now failed_before failed_now m k = absurd m
make_counts task job (NotConstructive wires) bytes before now failed_before failed_now m k = absurd m
make_counts task job _ bytes before now failed_before failed_now m k = (k.faults, k.failed)

pub make_out : (content : Content) (task : Task) (job : Job) (outcome : Outcome) (bytes : List ℕ) (s : SinkChange) → IsHeld content job.name bytes
    → LeavesAnswer task (IsAnswer task job.main bytes) s outcome → GainsOut (Some (Make task job)) content outcome s
make_out content task job outcome bytes s held l =
    answer_as task (IsAnswer task job.main bytes) (IsTextOf task job content) s outcome (λ text is. (bytes, held, is)) l

-- what a line speaks of where the source was read
pub source_subject : (content : Content) (job : Job) (bytes : List ℕ) (x : Subject) → IsHeld content job.name bytes → x.name ≡ job.name
    → x.main ≡ unwrap_or job.main [] → x.source ≡ bytes → IsSourceSubject job content x
source_subject content job bytes x held name main source = (name, main, subst (IsHeld content job.name) (sym source) held)

-- ---- a source that was not read

pub make_agrees_unread : (content : Content) (task : Task) (job : Job) (fault : FileFault) → Reads content job.name SOURCE_BYTES (Err fault)
    → IsOutcomeOf (Some (Make task job)) content (unread_outcome First limits.Source fault)
make_agrees_unread content task job reading.Failed read = tt
make_agrees_unread content task job reading.TooLong read = long_unread content job.name SOURCE_BYTES read
make_agrees_unread content task job reading.NoMemory read = some_bytes content job.name

-- of any command whose first file this is
pub counts_unread : (request : Request) (name : List ℕ) (limit : bounds.Limit) (fault : FileFault) (before now : ℕ) (failed_before failed_now : List ℕ)
    → ((n : List ℕ) → n ≡ name → IsFileOf request First n)
    → Counts before now failed_before failed_now name (Err fault)
    → CountsFiles (Some request) (unread_outcome First limit fault) before now failed_before failed_now
counts_unread request name limit reading.Failed before now failed_before failed_now is k = (k.faults, is failed_now k.failed)
counts_unread request name limit reading.TooLong before now failed_before failed_now is k = (k.faults, k.failed)
counts_unread request name limit reading.NoMemory before now failed_before failed_now is k = (k.faults, k.failed)

pub make_out_unread : (content : Content) (task : Task) (job : Job) (fault : FileFault) (s : SinkChange)
    → Appends s.before s.after s.faults_before s.faults_now [] → GainsOut (Some (Make task job)) content (unread_outcome First limits.Source fault) s
make_out_unread content task job fault s a = unread_answer task (IsTextOf task job content) fault s a

-- the line speaks of the file's name alone
same_line : (fault : FileFault) (x y : Subject) → x.name ≡ y.name →
    line_of x (unread_outcome First limits.Source fault) ≡ line_of y (unread_outcome First limits.Source fault)
same_line reading.Failed x y e = ap (λ name. codes "cec: " ++ ((codes "cannot read " ++ name) ++ codes "\n")) e
same_line reading.TooLong x y e = refl
same_line reading.NoMemory x y e = refl

-- the subject that speaks of a source that was not read
abbrev unread_subject : Content → Job → List ℕ → Subject
unread_subject content job trace = record { name = job.name; trace = trace; main = unwrap_or job.main []; source = held_by content job.name }

pub err_unread : (request : Request) (content : Content) (job : Job) (trace : List ℕ) (fault : FileFault) (x : Subject) (old new : Option (List ℕ))
    (before now : ℕ)
    → ((y : Subject) → IsSourceSubject job content y → y.trace ≡ trace → IsSubjectOf (Some request) content y)
    → x.name ≡ job.name
    → Appends old new before now (line_of x (unread_outcome First limits.Source fault))
    ⊎ Stops old new before now (line_of x (unread_outcome First limits.Source fault))
    → GainsErr (Some request) content (unread_outcome First limits.Source fault) old new before now
err_unread request content job trace fault x old new before now is name gains =
    let y = unread_subject content job trace in
    record {
      subject = y;
      is_subject = is y (refl, refl, held_told content job.name) refl;
      gains = subst (λ line. Appends old new before now line ⊎ Stops old new before now line) (same_line fault x y name) gains;
    }

-- ---- what is made of a source

pub refused_makes : (job : Job) (refusal : refused.Refusal) (source : List ℕ) → length source ≤ SOURCE_BYTES → IsRefused source job.main refusal
    → MakesOn job.main (outcome_of refusal) source
refused_makes job (refusals.Limit limits.Source) source short r = r
refused_makes job (refusals.Limit limits.Trace) source short r = absurd r
refused_makes job (refusals.Limit limits.Text) source short r = absurd r
refused_makes job refusals.NoMemory source short r = tt
refused_makes job _ source short r = record { short = short; refused = r }

pub refused_leaves : (Is : List ℕ → Type 0) (refusal : refused.Refusal) (s : SinkChange) → Appends s.before s.after s.faults_before s.faults_now []
    → OutcomeLeavesText Is s (outcome_of refusal)
refused_leaves Is (refusals.Static fault) s a = a
refused_leaves Is (refusals.Cyclic cycle) s a = a
refused_leaves Is (refusals.Limit quantity) s a = a
refused_leaves Is refusals.NoMemory s a = a

-- ---- commands that speak of no source

pub err_alone : (asked : Option Request) (content : Content) (outcome : Outcome) (x : Subject) (old new : Option (List ℕ)) (before now : ℕ)
    → IsSubjectOf asked content x
    → Appends old new before now (line_of x outcome) ⊎ Stops old new before now (line_of x outcome) → GainsErr asked content outcome old new before now
err_alone asked content outcome x old new before now is gains = record { subject = x; is_subject = is; gains = gains }

pub err_usage : (asked : Option Request) (content : Content) (x : Subject) (old new : Option (List ℕ)) (before now : ℕ) → None ≡ asked
    → Appends old new before now (line_of x Usage) ⊎ Stops old new before now (line_of x Usage) → GainsErr asked content Usage old new before now
err_usage asked content x old new before now e gains = record { subject = x; is_subject = subst (λ a. IsSubjectOf a content x) e tt; gains = gains }

-- no request ends as words without a meaning do
pub no_usage : (request : Request) (content : Content) → IsOutcomeOf (Some request) content Usage → ⊥
no_usage Help content a = a
no_usage (Generate start branches) content a = a
no_usage (Load start branches instants) content a = a
no_usage _ content a = a.2

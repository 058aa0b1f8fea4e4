-- Commands that read a trace behind their first file: what the steps say of the whole.
use Rattle.std.proofs.Common.{◌≡◌, ℕ, ◌≤◌, List, length, Option, Some, Result, Ok, Err, inl, inr, refl, subst, ◌∙◌}
use Rattle.std.proofs.Common.{⊎_elim}
use Rattle.base_types.specs.declared.bounds.TheConstants.Limits.{SOURCE_BYTES, TRACE_BYTES, TEXT_BYTES}
use Rattle.base_types.specs.declared.files.reading.FileFault.{FileFault}
use Rattle.base_types.specs.declared.files.reading.FileFault.TheVariants as reading
use Rattle.base_types.specs.Faults.{Rose}
use Rattle.base_types.specs.Reading.{Reads, Counts, KeepsFaults}
use Rattle.cec_words.specs.declared.asked.Via.{Via}
use Rattle.run_over_traces.specs.declared.running.RunFault.{RunFault}
use Rattle.run_over_traces.specs.declared.running.RunFault.TheVariants as runs
use Rattle.base_types.specs.Items.{Item}
use Rattle.base_types.specs.SinkChanges.{SinkChange, IsUntouched}
use Rattle.run_over_traces.specs.Languages.{RunsIn}
use Rattle.run_over_traces.specs.Machines.{ShownAnswer}
use Rattle.cec_compile.specs.declared.forms.TextForm.{TextForm}
use Rattle.cec_commands.specs.declared.text_faults.TextFault.{TextFault}
use Rattle.cec_commands.specs.declared.outcome.Outcome.{Outcome}
use Rattle.cec_commands.specs.declared.outcome.Outcome.TheVariants.{Done, Usage, FileFault as Unread, Static, Cyclic, Trace, BadText, Limit, WriteFault}
use Rattle.cec_commands.specs.declared.outcome.Outcome.TheVariants.{NoMemory}
use Rattle.cec_commands.specs.declared.outcome.Outcome.TheVariants.{NotConstructive}
use Rattle.cec_words.specs.declared.common.Which.{Which}
use Rattle.cec_words.specs.declared.common.Which.TheVariants.{First, Second}
use Rattle.cec_compile.specs.declared.refusal.Limit as bounds
use Rattle.cec_compile.specs.declared.refusal.Limit.TheVariants as limits
use Rattle.cec_compile.specs.declared.refusal.Refusal as refused
use Rattle.cec_compile.specs.declared.refusal.Refusal.TheVariants as refusals
use Rattle.cec_text_io.specs.Contents.{Content, IsHeld, Holds}
use Rattle.cec_commands.specs.Jobs.{Job, Request, Run, Exec}
use Rattle.cec_commands.specs.Outcomes.{RunsOn, ExecutesIn, AgreesOnTwo, IsOutcomeOf, IsFileOf, CountsFiles}
use Rattle.cec_compile.specs.Refusals.{IsRefused}
use Rattle.cec_commands.specs.Runs.{RunsSource, LeavesRun}
use Rattle.cec_compile.specs.Sources.{IsSource}
use Rattle.cec_commands.specs.Statuses.{outcome_of}
use Rattle.cec_commands.specs.Subjects.{unread_outcome, run_outcome, CountsTrace, LongTrace}
use Rattle.cec_text_io.proofs.Exports.{long_unread, some_bytes}

-- ---- behind the first file

pub two_agree : (content : Content) (name trace : List ℕ) (On : Outcome → List ℕ → Type 0) (outcome : Outcome) (bytes : List ℕ) → IsHeld content name bytes
    → On outcome bytes → LongTrace content trace outcome → AgreesOnTwo content name trace On outcome
two_agree content name trace On (Unread First) bytes held on long = tt
two_agree content name trace On (Limit limits.Trace) bytes held on long = ((bytes, held, on), long)
two_agree content name trace On _ bytes held on long = (bytes, held, on)

pub two_count : (request : Request) (trace : List ℕ) (outcome : Outcome) (a b c : ℕ) (f g h : List ℕ) → ((n : List ℕ) → n ≡ trace → IsFileOf request Second n)
    → KeepsFaults a b f g → CountsTrace trace outcome b c g h → CountsFiles (Some request) outcome a c f h
two_count request trace (Unread First) a b c f g h is k x = absurd x
two_count request trace (Unread Second) a b c f g h is k x = (subst (λ n. Rose n c) k.faults x.0, is h x.1)
two_count request trace _ a b c f g h is k x = (x.0 ∙ k.faults, x.1 ∙ k.failed)

-- what is left of a run, where each end says more
pub leaves_as : (P Q : Result (Unit {0}) RunFault → Type 0) (s : SinkChange) (outcome : Outcome) → ((r : Result (Unit {0}) RunFault) → P r → Q r)
    → LeavesRun P s outcome → LeavesRun Q s outcome
leaves_as P Q s Done f l = f (Ok tt) l
leaves_as P Q s (Trace fault) f l = f (Err (runs.Trace fault)) l
leaves_as P Q s WriteFault f l = f (Err runs.Write) l
leaves_as P Q s NoMemory f l = ⊎_elim inl (λ x. inr (f (Err runs.NoMemory) x)) l
leaves_as P Q s _ f l = l

-- ---- the first file is not read

pub leaves_unread : (P : Result (Unit {0}) RunFault → Type 0) (s : SinkChange) (file : Which) (limit : bounds.Limit) (fault : FileFault) → IsUntouched s
    → LeavesRun P s (unread_outcome file limit fault)
leaves_unread P s file limit reading.Failed u = u
leaves_unread P s file limit reading.TooLong u = u
leaves_unread P s file limit reading.NoMemory u = inl u

pub run_agrees_unread : (content : Content) (via : TextForm) (job : Job) (trace : List ℕ) (fault : FileFault) → Reads content job.name SOURCE_BYTES (Err fault)
    → IsOutcomeOf (Some (Run via job trace)) content (unread_outcome First limits.Source fault)
run_agrees_unread content via job trace reading.Failed read = tt
run_agrees_unread content via job trace reading.TooLong read = long_unread content job.name SOURCE_BYTES read
run_agrees_unread content via job trace reading.NoMemory read = some_bytes content job.name

pub exec_agrees_unread : (content : Content) (via : Via) (text trace : List ℕ) (fault : FileFault) → Reads content text TEXT_BYTES (Err fault)
    → IsOutcomeOf (Some (Exec via text trace)) content (unread_outcome First limits.Text fault)
exec_agrees_unread content via text trace reading.Failed read = tt
exec_agrees_unread content via text trace reading.TooLong read = long_unread content text TEXT_BYTES read
exec_agrees_unread content via text trace reading.NoMemory read = some_bytes content text

-- ---- the trace is not read

pub long_trace_unread : (content : Content) (trace : List ℕ) (fault : FileFault) → Reads content trace TRACE_BYTES (Err fault)
    → LongTrace content trace (unread_outcome Second limits.Trace fault)
long_trace_unread content trace reading.Failed read = tt
long_trace_unread content trace reading.TooLong read = long_unread content trace TRACE_BYTES read
long_trace_unread content trace reading.NoMemory read = tt

pub count_trace_unread : (trace : List ℕ) (fault : FileFault) (a b : ℕ) (f g : List ℕ) → Counts a b f g trace (Err fault)
    → CountsTrace trace (unread_outcome Second limits.Trace fault) a b f g
count_trace_unread trace reading.Failed a b f g k = (k.faults, k.failed)
count_trace_unread trace reading.TooLong a b f g k = (k.faults, k.failed)
count_trace_unread trace reading.NoMemory a b f g k = (k.faults, k.failed)

pub exec_trace_unread : (runnable : List ℕ → Type 0) (faulty : List ℕ → TextFault → Type 0) (bytes : List ℕ) (fault : FileFault) → runnable bytes
    → ExecutesIn runnable faulty (unread_outcome Second limits.Trace fault) bytes
exec_trace_unread runnable faulty bytes reading.Failed is = is
exec_trace_unread runnable faulty bytes reading.TooLong is = is
exec_trace_unread runnable faulty bytes reading.NoMemory is = tt

pub run_trace_unread : (via : TextForm) (job : Job) (bytes : List ℕ) (fault : FileFault) → IsSource job.main bytes →
    RunsOn via job.main (unread_outcome Second limits.Trace fault) bytes
run_trace_unread via job bytes reading.Failed is = is
run_trace_unread via job bytes reading.TooLong is = is
run_trace_unread via job bytes reading.NoMemory is = tt

-- ---- the run

pub long_trace_ran : (content : Content) (trace : List ℕ) (r : Result (Unit {0}) RunFault) → LongTrace content trace (run_outcome r)
long_trace_ran content trace (Ok done) = tt
long_trace_ran content trace (Err (runs.Trace fault)) = tt
long_trace_ran content trace (Err runs.Write) = tt
long_trace_ran content trace (Err runs.NoMemory) = tt

pub count_trace_ran : (trace : List ℕ) (r : Result (Unit {0}) RunFault) (a b : ℕ) (f g : List ℕ) → KeepsFaults a b f g
    → CountsTrace trace (run_outcome r) a b f g
count_trace_ran trace (Ok done) a b f g k = (k.faults, k.failed)
count_trace_ran trace (Err (runs.Trace fault)) a b f g k = (k.faults, k.failed)
count_trace_ran trace (Err runs.Write) a b f g k = (k.faults, k.failed)
count_trace_ran trace (Err runs.NoMemory) a b f g k = (k.faults, k.failed)

pub exec_ran : (runnable : List ℕ → Type 0) (faulty : List ℕ → TextFault → Type 0) (bytes : List ℕ) (r : Result (Unit {0}) RunFault) → runnable bytes
    → ExecutesIn runnable faulty (run_outcome r) bytes
exec_ran runnable faulty bytes (Ok done) is = is
exec_ran runnable faulty bytes (Err (runs.Trace fault)) is = is
exec_ran runnable faulty bytes (Err runs.Write) is = is
exec_ran runnable faulty bytes (Err runs.NoMemory) is = tt

pub run_ran : (via : TextForm) (job : Job) (bytes : List ℕ) (r : Result (Unit {0}) RunFault) → IsSource job.main bytes
    → RunsOn via job.main (run_outcome r) bytes
run_ran via job bytes (Ok done) is = is
run_ran via job bytes (Err (runs.Trace fault)) is = is
run_ran via job bytes (Err runs.Write) is = is
run_ran via job bytes (Err runs.NoMemory) is = tt

pub leaves_ran : (P : Result (Unit {0}) RunFault → Type 0) (s : SinkChange) (r : Result (Unit {0}) RunFault) → P r → LeavesRun P s (run_outcome r)
leaves_ran P s (Ok done) p = p
leaves_ran P s (Err (runs.Trace fault)) p = p
leaves_ran P s (Err runs.Write) p = p
leaves_ran P s (Err runs.NoMemory) p = inr p

-- where a text was run over the trace that was read
pub text_left : {P : Type 0} (reads : List ℕ → P → Type 0) (given outgoing : P → List (List ℕ)) (shows : P → List Item → List ShownAnswer → Type 0)
    (content : Content) (trace text : List ℕ) (s : SinkChange) (r : Result (Unit {0}) RunFault) (items : List ℕ) → IsHeld content trace items
    → RunsIn reads given outgoing shows text items s r
    → LeavesRun (λ ended. Holds content trace (λ i. RunsIn reads given outgoing shows text i s ended)) s (run_outcome r)
text_left reads given outgoing shows content trace text s r items held runs =
    leaves_ran (λ ended. Holds content trace (λ i. RunsIn reads given outgoing shows text i s ended)) s r (items, held, runs)

-- where a source was run over it
pub run_left : (content : Content) (trace : List ℕ) (via : TextForm) (main : Option (List ℕ)) (bytes : List ℕ) (s : SinkChange)
    (r : Result (Unit {0}) RunFault) (items : List ℕ)
    → IsHeld content trace items → RunsSource via main bytes items s r
    → LeavesRun (λ ended. Holds content trace (λ i. RunsSource via main bytes i s ended)) s (run_outcome r)
run_left content trace via main bytes s r items held runs =
    leaves_ran (λ ended. Holds content trace (λ i. RunsSource via main bytes i s ended)) s r (items, held, runs)

-- ---- the first file is refused

pub refused_runs : (via : TextForm) (job : Job) (refusal : refused.Refusal) (source : List ℕ) → length source ≤ SOURCE_BYTES → IsRefused source job.main refusal
    → RunsOn via job.main (outcome_of refusal) source
refused_runs via job (refusals.Limit limits.Source) source short r = r
refused_runs via job (refusals.Limit limits.Trace) source short r = absurd r
refused_runs via job (refusals.Limit limits.Text) source short r = absurd r
refused_runs via job refusals.NoMemory source short r = tt
refused_runs via job _ source short r = record { short = short; refused = r }

pub refused_long : (content : Content) (trace : List ℕ) (main : Option (List ℕ)) (refusal : refused.Refusal) (source : List ℕ) → IsRefused source main refusal
    → LongTrace content trace (outcome_of refusal)
refused_long content trace main (refusals.Limit limits.Trace) source r = absurd r
refused_long content trace main _ source r = tt

pub refused_counts : (trace : List ℕ) (refusal : refused.Refusal) (a : ℕ) (f : List ℕ) → CountsTrace trace (outcome_of refusal) a a f f
refused_counts trace (refusals.Static fault) a f = (refl, refl)
refused_counts trace (refusals.Cyclic cycle) a f = (refl, refl)
refused_counts trace (refusals.Limit quantity) a f = (refl, refl)
refused_counts trace refusals.NoMemory a f = (refl, refl)

pub refused_leaves_run : (P : Result (Unit {0}) RunFault → Type 0) (s : SinkChange) (refusal : refused.Refusal) → IsUntouched s
    → LeavesRun P s (outcome_of refusal)
refused_leaves_run P s (refusals.Static fault) u = u
refused_leaves_run P s (refusals.Cyclic cycle) u = u
refused_leaves_run P s (refusals.Limit quantity) u = u
refused_leaves_run P s refusals.NoMemory u = inl u

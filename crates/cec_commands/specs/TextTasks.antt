-- Inner: what is said of a task on texts of a form, by the task.
use Rattle.std.specs.Prelude.{◌≡◌, ℕ, ◌≤◌, ⊤, List, length}
use Rattle.base_types.specs.SinkChanges.{SinkChange}
use Rattle.base_types.specs.declared.bounds.TheConstants.Limits.{SOURCE_BYTES, TEXT_BYTES}
use Rattle.cec_text_io.specs.Contents.{Content, Holds}
use Rattle.cec_compile.specs.SourceTexts.{IsSourceText}
use Rattle.cec_compile.specs.declared.forms.TextForm.{TextForm}
use Rattle.cec_commands.specs.ExecTexts.{RunsBy}
use Rattle.cec_commands.specs.JobViews.{plain_job}
use Rattle.cec_commands.specs.Outcomes.{ExecutesOn, OutcomeLeavesPieces, MakesOn, RunsOn}
use Rattle.cec_commands.specs.Runs.{LeavesRun, RunsSource}
use Rattle.cec_commands.specs.Subjects.{CountsTrace, LongTrace}
use Rattle.cec_commands.specs.Targets.{language_of}
use Rattle.cec_commands.specs.declared.jobs.TextTask.{TextTask}
use Rattle.cec_commands.specs.declared.jobs.TextTask.TheVariants.{Write, Run, Exec}
use Rattle.cec_commands.specs.declared.outcome.Outcome.{Outcome}

-- its first file is no longer than what is read of it
abbrev pub FitsTask : TextTask → List ℕ → Type 0
FitsTask (Exec trace) bytes = length bytes ≤ TEXT_BYTES
FitsTask others bytes = length bytes ≤ SOURCE_BYTES

-- what its outcome says of the bytes of that file
abbrev pub SaysOfTask : TextForm → TextTask → Outcome → List ℕ → Type 0
SaysOfTask form (Write job) outcome bytes = MakesOn (plain_job job).main outcome bytes
SaysOfTask form (Run job trace) outcome bytes = RunsOn form (plain_job job).main outcome bytes
SaysOfTask form (Exec trace) outcome bytes = ExecutesOn (language_of form) outcome bytes

-- what it says of the trace, where there is one, and of the faults of the files
abbrev pub LongTaskTrace : Content → TextTask → Outcome → Type 0
LongTaskTrace content (Write job) outcome = ⊤
LongTaskTrace content (Run job trace) outcome = LongTrace content trace.now outcome
LongTaskTrace content (Exec trace) outcome = LongTrace content trace.now outcome

abbrev pub CountsTask : TextTask → Outcome → ℕ → ℕ → List ℕ → List ℕ → Type 0
CountsTask (Write job) outcome before now failed_before failed_now = (now ≡ before) × (failed_now ≡ failed_before)
CountsTask (Run job trace) outcome before now failed_before failed_now =
    CountsTrace trace.now outcome before now failed_before failed_now
CountsTask (Exec trace) outcome before now failed_before failed_now =
    CountsTrace trace.now outcome before now failed_before failed_now

-- what it leaves in `out`
abbrev pub LeavesTask : TextForm → TextTask → Content → List ℕ → SinkChange → Outcome → Type 0
LeavesTask form (Write job) content bytes s outcome =
    OutcomeLeavesPieces (IsSourceText form (plain_job job).main bytes) s outcome
LeavesTask form (Run job trace) content bytes s outcome =
    LeavesRun (λ ended. Holds content trace.now (λ items. RunsSource form (plain_job job).main bytes items s ended))
    s outcome
LeavesTask form (Exec trace) content bytes s outcome =
    LeavesRun (λ ended. Holds content trace.now (λ items. RunsBy (language_of form) bytes items s ended)) s outcome

-- To believe: what each outcome of the top call says.
use Rattle.std.specs.Prelude.{◌≡◌, ℕ, ◌<◌, ◌≤◌, ⊤, List, [], length, map, Option, Some, None}
use Rattle.base_types.specs.declared.bounds.TheConstants.Limits.{SOURCE_BYTES, TRACE_BYTES, TEXT_BYTES}
use Rattle.base_types.specs.Faults.{Rose}
use Rattle.base_types.specs.Writing.{Appends}
use Rattle.est_gen.specs.Sources.{source_text}
use Rattle.cec_words.specs.declared.asked.Via.{Via}
use Rattle.grc_graph.specs.PlainWireNames.{wire_name_of}
use Rattle.base_types.specs.SinkChanges.{SinkChange}
use Rattle.cec_text_io.specs.Writings as texts
use Rattle.cec_text_io.specs.declared.writing.Written.{Written}
use Rattle.cec_text_io.specs.declared.writing.Written.TheVariants as ends
use Rattle.cec_compile.specs.declared.forms.TextForm.{TextForm}
use Rattle.cec_commands.specs.declared.jobs.Task.{Task}
use Rattle.cec_commands.specs.declared.jobs.Task.TheVariants.{Text, Grc, Check}
use Rattle.cec_commands.specs.declared.outcome.Outcome.{Outcome}
use Rattle.cec_commands.specs.declared.outcome.Outcome.TheVariants.{Done, Usage, FileFault, Static, Cyclic, Trace}
use Rattle.cec_commands.specs.declared.outcome.Outcome.TheVariants.{BadText}
use Rattle.cec_commands.specs.declared.outcome.Outcome.TheVariants.{Limit, WriteFault, NoMemory}
use Rattle.cec_words.specs.declared.common.Which.{Which}
use Rattle.cec_words.specs.declared.common.Which.TheVariants.{First, Second}
use Rattle.cec_commands.specs.declared.text_faults.TextFault.{TextFault}
use Rattle.cec_compile.specs.declared.refusal.Limit.TheVariants as limits
use Rattle.cec_compile.specs.declared.refusal.Refusal.TheVariants as refusals
use Rattle.cec_commands.specs.Answers.{IsAnswer}
use Rattle.cec_text_io.specs.Contents.{Content, Holds}
use Rattle.cec_commands.specs.ExecTexts.{IsRunnable, TextHasFault, RunsBy}
use Rattle.cec_commands.specs.HelpTexts.{help_text}
use Rattle.cec_commands.specs.Jobs.{Job, Request, Help, Make, Run, RunTri, Exec, Generate, Load}
use Rattle.cec_commands.specs.Loads.{IsSummary, state_behind}
use Rattle.cec_commands.specs.Runs.{RunsSource, LeavesRun}
use Rattle.cec_compile.specs.Sources.{IsSource, IsRefusedSource, WritesLongText}
use Rattle.cec_commands.specs.TriRuns.{ReactsOn, ReactsOver, StopsOver, LeavesReactions}

-- ---- causes

-- what the outcome of a task on a source that was read says of its bytes, by the main module's name where there is one
abbrev pub MakesOn : Option (List ℕ) → Outcome → List ℕ → Type 0
MakesOn main Done bytes = IsSource main bytes
MakesOn main (Static fault) bytes = IsRefusedSource main (refusals.Static fault) bytes
MakesOn main (Cyclic cycle) bytes = IsRefusedSource main (refusals.Cyclic cycle) bytes
MakesOn main (Limit limits.Source) bytes = SOURCE_BYTES < length bytes
MakesOn main (Limit quantity) bytes = IsRefusedSource main (refusals.Limit quantity) bytes
MakesOn main WriteFault bytes = IsSource main bytes
MakesOn main NoMemory bytes = ⊤
MakesOn main others bytes = ⊥

-- the same for a source that is run over a trace: what comes of the trace says that the source compiles
abbrev pub RunsOn : TextForm → Option (List ℕ) → Outcome → List ℕ → Type 0
RunsOn via main (FileFault Second) bytes = IsSource main bytes
RunsOn via main (Trace fault) bytes = IsSource main bytes
RunsOn via main (Limit limits.Trace) bytes = IsSource main bytes
RunsOn via main (Limit limits.Text) bytes = WritesLongText via main bytes
RunsOn via main others bytes = MakesOn main others bytes

-- what the outcome of `exec` on a text that was read says of its bytes, by which texts can be run and by their faults
abbrev pub ExecutesIn : (List ℕ → Type 0) → (List ℕ → TextFault → Type 0) → Outcome → List ℕ → Type 0
ExecutesIn runnable faulty Done bytes = runnable bytes
ExecutesIn runnable faulty (FileFault Second) bytes = runnable bytes
ExecutesIn runnable faulty (Trace fault) bytes = runnable bytes
ExecutesIn runnable faulty (BadText fault) bytes = (length bytes ≤ TEXT_BYTES) × faulty bytes fault
ExecutesIn runnable faulty (Limit limits.Text) bytes = TEXT_BYTES < length bytes
ExecutesIn runnable faulty (Limit limits.Trace) bytes = runnable bytes
ExecutesIn runnable faulty WriteFault bytes = runnable bytes
ExecutesIn runnable faulty NoMemory bytes = ⊤
ExecutesIn runnable faulty others bytes = ⊥

abbrev pub ExecutesOn : Via → Outcome → List ℕ → Type 0
ExecutesOn via outcome bytes = ExecutesIn (IsRunnable via) (TextHasFault via) outcome bytes

abbrev pub IsLongTrace : List ℕ → Type 0
IsLongTrace bytes = TRACE_BYTES < length bytes

-- what an outcome says of the file that is read first, where `On` says what it says of its bytes; a file fault says
-- nothing of bytes
abbrev pub AgreesOnFile : Content → List ℕ → (Outcome → List ℕ → Type 0) → Outcome → Type 0
AgreesOnFile content name On (FileFault First) = ⊤
AgreesOnFile content name On others = Holds content name (On others)

-- the same where a trace is read after it, which may be too long
abbrev pub AgreesOnTwo : Content → (name trace : List ℕ) → (Outcome → List ℕ → Type 0) → Outcome → Type 0
AgreesOnTwo content name trace On (FileFault First) = ⊤
AgreesOnTwo content name trace On (Limit limits.Trace) = Holds content name (On (Limit limits.Trace))
    × Holds content trace IsLongTrace
AgreesOnTwo content name trace On others = Holds content name (On others)

-- how a command ends that reads no file
abbrev pub IsWriting : Outcome → Type 0
IsWriting Done = ⊤
IsWriting WriteFault = ⊤
IsWriting NoMemory = ⊤
IsWriting others = ⊥

-- what an outcome says of the words and of the bytes in the files
abbrev pub IsOutcomeOf : Option Request → Content → Outcome → Type 0
IsOutcomeOf None content outcome = outcome ≡ Usage
IsOutcomeOf (Some Help) content outcome = IsWriting outcome
IsOutcomeOf (Some (Make task job)) content outcome = AgreesOnFile content job.name (MakesOn job.main) outcome
IsOutcomeOf (Some (Run via job trace)) content outcome =
    AgreesOnTwo content job.name trace (RunsOn via job.main) outcome
IsOutcomeOf (Some (RunTri job trace)) content outcome = AgreesOnTwo content job.name trace (ReactsOn job.main) outcome
IsOutcomeOf (Some (Exec via text trace)) content outcome = AgreesOnTwo content text trace (ExecutesOn via) outcome
IsOutcomeOf (Some (Generate start branches)) content outcome = IsWriting outcome
IsOutcomeOf (Some (Load start branches instants)) content outcome = MakesOn None outcome (source_text start branches)

-- ---- the files

-- the name of a file of a command
abbrev pub IsFileOf : Request → Which → List ℕ → Type 0
IsFileOf (Make task job) First name = name ≡ job.name
IsFileOf (Run via job trace) First name = name ≡ job.name
IsFileOf (Run via job trace) Second name = name ≡ trace
IsFileOf (RunTri job trace) First name = name ≡ job.name
IsFileOf (RunTri job trace) Second name = name ≡ trace
IsFileOf (Exec via text trace) First name = name ≡ text
IsFileOf (Exec via text trace) Second name = name ≡ trace
IsFileOf others file name = ⊥

-- The count of faults of the files and the name that failed last: a file fault raised the count, and the
-- name is the file's; every other outcome leaves both.
abbrev pub CountsFiles : Option Request → Outcome → ℕ → ℕ → List ℕ → List ℕ → Type 0
CountsFiles None outcome before now failed_before failed_now = (now ≡ before) × (failed_now ≡ failed_before)
CountsFiles (Some request) (FileFault file) before now failed_before failed_now = Rose before now
    × IsFileOf request file failed_now
CountsFiles (Some request) others before now failed_before failed_now = (now ≡ before) × (failed_now ≡ failed_before)

-- ---- what `out` gained

-- how the writing of a text ended; after every other outcome none was to be written
abbrev pub written_of : Outcome → Option Written
written_of Done = Some ends.Done
written_of WriteFault = Some ends.WriteFault
written_of NoMemory = Some ends.NoMemory
written_of others = None

-- the whole text, with no fault; a prefix of it, after a fault; after every other outcome nothing
abbrev pub OutcomeLeavesText : (List ℕ → Type 0) → SinkChange → Outcome → Type 0
OutcomeLeavesText IsText s outcome = texts.LeavesText IsText s (written_of outcome)

-- A text that is written piece by piece: if memory runs out between two pieces, a prefix of it is there.
abbrev pub OutcomeLeavesPieces : (List ℕ → Type 0) → SinkChange → Outcome → Type 0
OutcomeLeavesPieces IsText s outcome = texts.LeavesPieces IsText s (written_of outcome)

-- netlists are written piece by piece, what is reported of a graph as a whole
abbrev pub LeavesAnswer : Task → (List ℕ → Type 0) → SinkChange → Outcome → Type 0
LeavesAnswer (Text form) IsText s outcome = OutcomeLeavesPieces IsText s outcome
LeavesAnswer Grc IsText s outcome = OutcomeLeavesText IsText s outcome
LeavesAnswer Check IsText s outcome = OutcomeLeavesText IsText s outcome

-- what a task writes of the source in a file
abbrev pub IsTextOf : Task → Job → Content → List ℕ → Type 0
IsTextOf task job content text = Holds content job.name (λ bytes. IsAnswer task job.main bytes text)

-- What `out` gained, by the command: its whole text, or the lines of a run.
abbrev pub GainsOut : Option Request → Content → Outcome → SinkChange → Type 0
GainsOut None content outcome s = Appends s.before s.after s.faults_before s.faults_now []
GainsOut (Some Help) content outcome s = OutcomeLeavesText (λ text. text ≡ help_text) s outcome
GainsOut (Some (Make task job)) content outcome s = LeavesAnswer task (IsTextOf task job content) s outcome
GainsOut (Some (Run via job trace)) content outcome s =
    LeavesRun (λ result. Holds content job.name (λ bytes.
    Holds content trace (λ items. RunsSource via job.main bytes items s result))) s outcome
GainsOut (Some (RunTri job trace)) content outcome s =
    LeavesReactions (λ result. Holds content job.name (λ bytes.
    Holds content trace (λ items. ReactsOver job.main bytes items s result))) (λ wires. Holds content job.name (λ bytes.
    Holds content trace (λ items. StopsOver job.main bytes items s wires.instant (map wire_name_of wires.wires.items))))
    s outcome
GainsOut (Some (Exec via text trace)) content outcome s =
    LeavesRun (λ result. Holds content text (λ bytes.
    Holds content trace (λ items. RunsBy via bytes items s result))) s outcome
GainsOut (Some (Generate start branches)) content outcome s =
    OutcomeLeavesText (λ text. text ≡ source_text start branches) s outcome
GainsOut (Some (Load start branches instants)) content outcome s =
    OutcomeLeavesText (IsSummary (source_text start branches) (state_behind start branches) instants) s outcome

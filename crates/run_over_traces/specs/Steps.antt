-- Inner: one item of a run.
use Rattle.std.specs.Prelude.{◌≡◌, ℕ, ◌+◌, ◌<◌, ◌≤◌, Bool, true, false, ⊤, List, [], ◌∷◌, ◌++◌, length, Result, Ok, Err}
use Rattle.base_types.specs.Items.{Item, Event, Reset}
use Rattle.base_types.specs.Relations.{MeetsAll}
use Rattle.base_types.specs.SinkChanges.{SinkChange}
use Rattle.base_types.specs.Writing.{Appends, Stops, GainsFront}
use Rattle.run_trace_io.specs.Traces.{Reading, next_group}
use Rattle.run_trace_io.specs.Traces as groups
use Rattle.run_trace_io.specs.Answers.{IsFault}
use Rattle.run_trace_io.specs.declared.faults.TraceError.{TraceError}
use Rattle.run_trace_io.specs.declared.faults.TraceError.TheVariants as errors
use Rattle.run_over_traces.specs.declared.running.RunFault.{RunFault}
use Rattle.run_over_traces.specs.declared.running.RunFault.TheVariants.{Trace, Write, NoMemory}
use Rattle.run_over_traces.specs.Becoming.{shown_until}
use Rattle.run_over_traces.specs.Machines.{ShownAnswer, answer_lines}

-- the items of a trace between two readings
abbrev pub Leads : Reading → List Item → Reading → Type 0
Leads r [] later = later ≡ r
Leads r (Reset ∷ more) later =
    (behind : ℕ) × (next_group r ≡ groups.Reset behind) × Leads (record r { at = behind }) more later
Leads r (Event event ∷ more) later =
    (behind : ℕ) × (next_group r ≡ groups.Instant event behind) × MeetsAll r.relations event
    × Leads (record r { at = behind; instant = r.instant + 1 }) more later

-- what came to the sink of a text that was to be written
abbrev pub Came : SinkChange → List ℕ → Result Bool RunFault → Type 0
Came s text (Ok more) = Appends s.before s.after s.faults_before s.faults_now text
Came s text (Err (Trace fault)) = Appends s.before s.after s.faults_before s.faults_now text
Came s text (Err Write) = Stops s.before s.after s.faults_before s.faults_now text
Came s text (Err NoMemory) = (s.faults_now ≡ s.faults_before) × GainsFront s.before s.after text

-- where the reading stands: after an item, at the end, at a fault
abbrev pub Stands : Reading → Reading → Result Bool RunFault → Type 0
Stands old new (Ok true) = (old.at < new.at) × (new.at ≤ length new.text)
Stands old new (Ok false) = next_group new ≡ groups.End
Stands old new (Err (Trace fault)) = IsFault new fault
Stands old new (Err Write) = ⊤
Stands old new (Err NoMemory) = ⊤

-- What a machine showed to items on its way to a later state: whatever it shows from there on, it has shown these
-- answers before.
pub record Led {S : Type 0} (shows : S → List Item → List ShownAnswer → Type 0) (old : S) (items : List Item)
    (answers : List ShownAnswer) (new : S) : Type 0 where
  pub in_front : (more : List Item) (behind : List ShownAnswer)
      → shows new more behind → shows old (items ++ more) (answers ++ behind)

-- one item, or none, between two readings and two states
pub record IsStep {S : Type 0} (shows : S → List Item → List ShownAnswer → Type 0) (names : List (List ℕ))
    (r later : Reading) (old new : S) (s : SinkChange) (result : Result Bool RunFault) : Type 0 where
  pub items : List Item
  pub answers : List ShownAnswer
  pub leads : Leads r items later
  pub led : Led shows old items answers new
  pub came : Came s (answer_lines names answers) result
  pub stands : Stands r later result

-- the same, whatever machine it becomes after the items that are left
abbrev pub IsStepTowards : {S : Type 0} → (S → List Item → List ShownAnswer → Type 0)
    → (S → List Item → S → Type 0) → (names : List (List ℕ)) (r later : Reading) (old new : S) (s : SinkChange)
    (result : Result Bool RunFault) → Type 0
IsStepTowards {S} shows becomes names r later old new s result =
    (last : S) → IsStep (shown_until shows becomes last) names r later old new s result

-- why a run ends where the trace has no next item
abbrev pub trace_stop : TraceError → RunFault
trace_stop (errors.Fault fault) = Trace fault
trace_stop errors.NoMemory = NoMemory

-- what came to the sink of a line
abbrev pub LineCame : SinkChange → List ℕ → Result (Unit {0}) RunFault → Type 0
LineCame s text (Ok done) = Appends s.before s.after s.faults_before s.faults_now text
LineCame s text (Err (Trace fault)) = ⊥
LineCame s text (Err Write) = Stops s.before s.after s.faults_before s.faults_now text
LineCame s text (Err NoMemory) = (s.faults_now ≡ s.faults_before) × GainsFront s.before s.after text

-- To believe: what a run over a trace writes, and how it ends.
use Rattle.std.specs.Prelude.{◌≡◌, ℕ, ◌+◌, ⊤, List, [], ◌∷◌, Some, None, Result, Ok, Err}
use Rattle.base_types.specs.Items.{Item, Event, Reset}
use Rattle.base_types.specs.Relations.{MeetsAll}
use Rattle.base_types.specs.SinkChanges.{SinkChange}
use Rattle.base_types.specs.Writing.{Appends, Stops, GainsFront}
use Rattle.run_trace_io.specs.Traces.{Reading, next_group}
use Rattle.run_trace_io.specs.Traces as groups
use Rattle.run_trace_io.specs.Answers.{IsTrace}
use Rattle.run_over_traces.specs.declared.running.RunFault.{RunFault}
use Rattle.run_over_traces.specs.declared.running.RunFault.TheVariants.{Trace, Write, NoMemory}

-- the first items of a trace from a reading on
abbrev pub IsTraceFront : Reading → List Item → Type 0
IsTraceFront r [] = ⊤
IsTraceFront r (Reset ∷ more) =
    (behind : ℕ) × (next_group r ≡ groups.Reset behind) × IsTraceFront (record r { at = behind }) more
IsTraceFront r (Event event ∷ more) =
    (behind : ℕ) × (next_group r ≡ groups.Instant event behind) × MeetsAll r.relations event
    × IsTraceFront (record r { at = behind; instant = r.instant + 1 }) more

-- How a run over a trace ends, where `Writes` says which text some items bring about. Done: the sink gained the text of
-- all items of the trace. A fault of the trace: it gained the text of the items before the first fault. A failed write:
-- the count of faults rose, and the sink gained a prefix of the text of the first items. Out of memory, at any moment:
-- the sink gained such a prefix too.
abbrev pub RunsTrace : (List Item → List ℕ → Type 0) → Reading → SinkChange → Result (Unit {0}) RunFault → Type 0
RunsTrace Writes trace s (Ok done) =
    (items : List Item) × (text : List ℕ) × IsTrace trace items None × Writes items text
    × Appends s.before s.after s.faults_before s.faults_now text
RunsTrace Writes trace s (Err (Trace fault)) =
    (items : List Item) × (text : List ℕ) × IsTrace trace items (Some fault) × Writes items text
    × Appends s.before s.after s.faults_before s.faults_now text
RunsTrace Writes trace s (Err Write) =
    (items : List Item) × (text : List ℕ) × IsTraceFront trace items × Writes items text
    × Stops s.before s.after s.faults_before s.faults_now text
RunsTrace Writes trace s (Err NoMemory) =
    (items : List Item) × (text : List ℕ) × IsTraceFront trace items × Writes items text
    × (s.faults_now ≡ s.faults_before) × GainsFront s.before s.after text

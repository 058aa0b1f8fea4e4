-- Contract: that a run which is cut off leaves a prefix, and what the items of a trace are.
use Rattle.std.specs.Prelude.{◌≡◌, ℕ, List, length, map, Option, Result, Ok, Err}
use Rattle.base_types.specs.Items.{Item, EachEvent}
use Rattle.base_types.specs.Relations.{Relation, MeetsAll}
use Rattle.base_types.specs.SinkChanges.{SinkChange}
use Rattle.base_types.specs.Writing.{Appends, Stops, GainsFront}
use Rattle.net_ir.specs.Netlists.{Netlist}
use Rattle.net_ir.specs.Runs.{net_run}
use Rattle.run_trace_io.specs.declared.faults.TraceFault.{TraceFault}
use Rattle.run_trace_io.specs.Traces.{Reading}
use Rattle.run_trace_io.specs.Answers.{IsTrace, beginning}
use Rattle.run_over_traces.specs.declared.running.RunFault.{RunFault}
use Rattle.run_over_traces.specs.declared.running.RunFault.TheVariants.{Trace, Write, NoMemory}
use Rattle.run_over_traces.specs.Languages.{shown_answer, ShowsNet}
use Rattle.run_over_traces.specs.Machines.{answer_lines}
use Rattle.run_over_traces.specs.Running.{IsTraceFront, RunsTrace}

-- what is left of a run in the sink: the whole text of the trace, or a prefix of it
abbrev pub Leaves : SinkChange → List ℕ → Result (Unit {0}) RunFault → Type 0
Leaves s text (Ok done) = Appends s.before s.after s.faults_before s.faults_now text
Leaves s text (Err (Trace fault)) = Appends s.before s.after s.faults_before s.faults_now text
Leaves s text (Err Write) = Stops s.before s.after s.faults_before s.faults_now text
Leaves s text (Err NoMemory) = (s.faults_now ≡ s.faults_before) × GainsFront s.before s.after text

-- of a net, where the items of the whole trace are these
abbrev pub NetsAreWritten : Type 0
NetsAreWritten =
    (names : List (List ℕ)) (net : Netlist) (trace : Reading) (s : SinkChange) (result : Result (Unit {0}) RunFault)
    → (items : List Item) (end : Option TraceFault) → RunsTrace (ShowsNet names net) trace s result
    → IsTrace trace items end
    → Leaves s (answer_lines names (map shown_answer (net_run net items))) result

-- the items of a whole trace are its first items
abbrev pub TracesBegin : Type 0
TracesBegin = (trace : Reading) (items : List Item) (end : Option TraceFault) → IsTrace trace items end →
    IsTraceFront trace items

-- each event among the first items of a trace has a value for each input, and meets every relation
abbrev pub EventsFit : Type 0
EventsFit =
    (text : List ℕ) (inputs : List (List ℕ)) (relations : List Relation) (items : List Item)
    → IsTraceFront (beginning text inputs relations) items
    → EachEvent (λ event. (length event ≡ length inputs) × MeetsAll relations event) items

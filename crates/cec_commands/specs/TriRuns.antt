-- To believe: what the outcome of a run by three-valued reactions says, and what the run leaves in `out`.
use Rattle.std.specs.Prelude.{◌≡◌, ℕ, ◌+◌, ◌<◌, ◌≤◌, ◌++◌, ⊤, Bool, List, [], ◌∷◌, length, map, Option, Result}
use Rattle.base_types.specs.declared.bounds.TheConstants.Limits.{SOURCE_BYTES}
use Rattle.base_types.specs.Items.{Item, Event, Reset}
use Rattle.base_types.specs.SinkChanges.{SinkChange}
use Rattle.base_types.specs.Writing.{Appends}
use Rattle.est_kernel.specs.Plain.{Program, given_names, outgoing_names}
use Rattle.grc_graph.specs.WireNames.{WireName, wire_name}
use Rattle.grc_graph.specs.Wires.{Wire}
use Rattle.grc_ternary.specs.TriRuns.{StopsAt}
use Rattle.run_trace_io.specs.Answers.{beginning}
use Rattle.run_trace_io.specs.Traces.{Reading}
use Rattle.run_over_traces.specs.declared.running.RunFault.{RunFault}
use Rattle.run_over_traces.specs.Machines.{answer_lines}
use Rattle.run_over_traces.specs.Running.{IsTraceFront, RunsTrace}
use Rattle.est_front.specs.Sources.{StandsFor}
use Rattle.cec_commands.specs.declared.outcome.Outcome.{Outcome}
use Rattle.cec_commands.specs.declared.outcome.Outcome.TheVariants.{Done, FileFault, Static, Trace, Limit}
use Rattle.cec_commands.specs.declared.outcome.Outcome.TheVariants.{NotConstructive}
use Rattle.cec_commands.specs.declared.outcome.Outcome.TheVariants.{WriteFault, NoMemory}
use Rattle.cec_words.specs.declared.common.Which.TheVariants.{Second}
use Rattle.cec_compile.specs.declared.refusal.Limit.TheVariants as limits
use Rattle.cec_compile.specs.declared.refusal.Refusal.TheVariants as refusals
use Rattle.cec_commands.specs.declared.unknown_wires.UnknownWires.{UnknownWires}
use Rattle.cec_compile.specs.Refusals.{KeepsGraphLimits}
use Rattle.cec_commands.specs.Runs.{ShowsRun, LeavesRun, line_answer}
use Rattle.cec_compile.specs.Sources.{IsRefusedSource}

-- The bytes stand for a program whose graph keeps the limits; its dependencies may have a cycle.
pub record IsGraphSource (main : Option (List ℕ)) (bytes : List ℕ) : Type 0 where
  pub program : Program
  pub short : length bytes ≤ SOURCE_BYTES
  pub source : StandsFor bytes main program
  pub limits : KeepsGraphLimits program

-- What the outcome says of the bytes of the source. Such a source is not refused for a cycle, and what comes of the
-- trace says that it has a graph.
abbrev pub ReactsOn : Option (List ℕ) → Outcome → List ℕ → Type 0
ReactsOn main Done bytes = IsGraphSource main bytes
ReactsOn main (FileFault Second) bytes = IsGraphSource main bytes
ReactsOn main (Static fault) bytes = IsRefusedSource main (refusals.Static fault) bytes
ReactsOn main (Trace fault) bytes = IsGraphSource main bytes
ReactsOn main (Limit limits.Source) bytes = SOURCE_BYTES < length bytes
ReactsOn main (Limit limits.Trace) bytes = IsGraphSource main bytes
ReactsOn main (Limit quantity) bytes = IsRefusedSource main (refusals.Limit quantity) bytes
ReactsOn main (NotConstructive wires) bytes = IsGraphSource main bytes
ReactsOn main WriteFault bytes = IsGraphSource main bytes
ReactsOn main NoMemory bytes = ⊤
ReactsOn main others bytes = ⊥

-- how many instants some items are; a reset is none
abbrev pub event_count : List Item → ℕ
event_count [] = 0
event_count (Event event ∷ items) = event_count items + 1
event_count (Reset ∷ items) = event_count items

-- The correctness theorem for `run --via tri`: the bytes stand for a program, and what the trace brings about is the
-- lines of the program's run over its items, in each instant of which the program is constructive.
pub record ReactsOver (main : Option (List ℕ)) (bytes trace : List ℕ) (s : SinkChange)
    (result : Result (Unit {0}) RunFault) : Type 0 where
  pub program : Program
  pub short : length bytes ≤ SOURCE_BYTES
  pub source : StandsFor bytes main program
  pub limits : KeepsGraphLimits program
  pub ran : RunsTrace (ShowsRun program) (beginning trace (given_names program) program.relations) s result

-- A program is constructive in the instants of the first items of a trace, whose lines are written, and not in the next
-- one, which has this number: there the wires with these names are unknown in the least solution of its graph, and no
-- others.
pub record StopsTrace (p : Program) (trace : Reading) (s : SinkChange) (instant : ℕ) (names : List WireName) :
    Type 0 where
  pub items : List Item
  pub event : List Bool
  pub front : IsTraceFront trace (items ++ Event event ∷ [])
  pub number : instant ≡ trace.instant + event_count items
  pub unknown : List Wire
  pub stops : StopsAt p items event unknown
  pub named : names ≡ map (wire_name p) unknown
  pub lines : Appends s.before s.after s.faults_before s.faults_now
      (answer_lines (outgoing_names p) (map line_answer stops.answers))

-- the same of the program that the bytes stand for
pub record StopsOver (main : Option (List ℕ)) (bytes trace : List ℕ) (s : SinkChange) (instant : ℕ)
    (names : List WireName) : Type 0 where
  pub program : Program
  pub short : length bytes ≤ SOURCE_BYTES
  pub source : StandsFor bytes main program
  pub limits : KeepsGraphLimits program
  pub stopped : StopsTrace program (beginning trace (given_names program) program.relations) s instant names

-- What such a run leaves in `out`, where `Ran` says what is left as of any run, and `Stopped` what is left where wires
-- stay unknown.
abbrev pub LeavesReactions : (Result (Unit {0}) RunFault → Type 0) → (UnknownWires → Type 0) → SinkChange → Outcome
    → Type 0
LeavesReactions Ran Stopped s (NotConstructive wires) = Stopped wires
LeavesReactions Ran Stopped s others = LeavesRun Ran s others

-- Inner: how a run of a graph over a trace that was read ends.
use Rattle.std.specs.Prelude.{◌≡◌, ℕ, ⊤, Bool, List, map, Result, Ok, Err}
use Rattle.base_types.specs.Relations.{relation_of}
use Rattle.base_types.specs.SinkChanges.{SinkChange}
use Rattle.est_kernel.specs.Plain.{Program, program_of, given_names, outgoing_names}
use Rattle.grc_graph.specs.declared.graph.Graph.{Graph}
use Rattle.grc_graph.specs.PlainGraphs.{names_of}
use Rattle.grc_graph.specs.PlainWireNames.{wire_name_of}
use Rattle.grc_graph.specs.WireNames.{wire_name}
use Rattle.run_trace_io.specs.Answers.{beginning}
use Rattle.run_over_traces.specs.declared.running.Interface.{Interface}
use Rattle.run_over_traces.specs.Running.{RunsTrace}
use Rattle.cec_commands.specs.declared.outcome.Outcome.{Outcome}
use Rattle.cec_commands.specs.declared.outcome.Outcome.TheVariants as outcomes
use Rattle.cec_commands.specs.declared.reactions.ReactionFault.{ReactionFault}
use Rattle.cec_commands.specs.declared.reactions.ReactionFault.TheVariants.{Run, NotConstructive}
use Rattle.grc_ternary_stops.specs.MarkedWires.{marked_of}
use Rattle.cec_commands.specs.Runs.{ShowsRun}
use Rattle.cec_commands.specs.Subjects.{run_outcome}
use Rattle.cec_commands.specs.TriRuns.{LeavesReactions, StopsTrace}

-- the interface is the program's
pub record IsInterfaceOf (p : Program) (i : Interface) : Type 0 where
  pub given : i.given.items ≡ given_names p
  pub outgoing : i.outgoing.items ≡ outgoing_names p
  pub relations : map relation_of i.relations.items ≡ p.relations

abbrev pub EndsReactions : Outcome → Type 0
EndsReactions outcomes.Done = ⊤
EndsReactions (outcomes.Trace fault) = ⊤
EndsReactions outcomes.WriteFault = ⊤
EndsReactions outcomes.NoMemory = ⊤
EndsReactions (outcomes.NotConstructive wires) = ⊤
EndsReactions others = ⊥

-- the run stopped where some wire is unknown
abbrev pub IsNotConstructive : Result (Unit {0}) ReactionFault → Type 0
IsNotConstructive (Err (NotConstructive number)) = ⊤
IsNotConstructive others = ⊥

-- the outcome of a run, where these wires were unknown in its last instant; because memory ran out they may not be told
abbrev pub IsReactionsOutcome : Graph → List Bool → Result (Unit {0}) ReactionFault → Outcome → Type 0
IsReactionsOutcome g unknown (Ok done) outcome = outcome ≡ outcomes.Done
IsReactionsOutcome g unknown (Err (Run fault)) outcome = outcome ≡ run_outcome (Err fault)
IsReactionsOutcome g unknown (Err (NotConstructive number)) (outcomes.NotConstructive wires) =
    (wires.instant ≡ number)
    × (map wire_name_of wires.wires.items
    ≡ map (wire_name (program_of g.program)) (marked_of unknown (names_of g)))
IsReactionsOutcome g unknown (Err (NotConstructive number)) outcomes.NoMemory = ⊤
IsReactionsOutcome g unknown (Err (NotConstructive number)) others = ⊥

-- what a run of a program over a trace leaves
abbrev pub LeavesTrace : Program → (trace : List ℕ) → SinkChange → Outcome → Type 0
LeavesTrace p trace s outcome =
    let reading = beginning trace (given_names p) p.relations in
    LeavesReactions (λ ended. RunsTrace (ShowsRun p) reading s ended)
    (λ wires. StopsTrace p reading s wires.instant (map wire_name_of wires.wires.items)) s outcome

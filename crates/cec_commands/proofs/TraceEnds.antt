-- How a run of a program's graph over a trace ends, told of the program.
use Rattle.std.proofs.Common.{◌≡◌, ℕ, ◌+◌, ◌≤◌, Bool, List, [], ◌∷◌, ◌++◌, length, map, take, drop, ◌&&◌, Result, Ok, Err, IsTrue, inr, refl, sym, ap, ◌∙◌}
use Rattle.std.proofs.Common.{subst, arith}
use Rattle.std.proofs.lemmas.Bool.{and_parts}
use Rattle.std.proofs.lemmas.List.{take_all, take-append-drop, take-take}
use Rattle.base_types.specs.Distinct.{all_differ, none_shared}
use Rattle.base_types.specs.Items.{Item, Event, Reset}
use Rattle.base_types.specs.Names.{is_same_name}
use Rattle.base_types.specs.Relations.{relation_of}
use Rattle.base_types.specs.SinkChanges.{SinkChange}
use Rattle.base_types.specs.Writing.{Gains}
use Rattle.est_kernel.specs.Plain.{Program, given_count, given_names, interface_count, outgoing_names, program_of}
use Rattle.est_kernel.specs.WellFormed.{HasNames}
use Rattle.grc_graph.specs.declared.graph.Graph.{Graph}
use Rattle.grc_graph.specs.BuiltGraphs.{IsGraphOf}
use Rattle.grc_graph.specs.PlainWireNames.{wire_name_of}
use Rattle.grc_graph.specs.Walk.{Initial}
use Rattle.net_ir.proofs.Exports.{all_differ-append}
use Rattle.run_trace_io.specs.Answers.{beginning}
use Rattle.run_trace_io.specs.Traces.{Reading}
use Rattle.run_over_traces.specs.declared.running.Interface.{Interface}
use Rattle.run_over_traces.specs.declared.running.RunFault.{RunFault}
use Rattle.run_over_traces.specs.declared.running.RunFault.TheVariants as runs
use Rattle.run_over_traces.specs.Machines.{Brings, answer_lines}
use Rattle.run_over_traces.specs.Running.{IsTraceFront, RunsTrace}
use Rattle.run_over_traces.proofs.Exports.{runs-so}
use Rattle.grc_ternary_run.specs.Runners.{Runner, state_in}
use Rattle.cec_commands.specs.declared.outcome.Outcome.{Outcome}
use Rattle.cec_commands.specs.declared.outcome.Outcome.TheVariants as outcomes
use Rattle.cec_commands.specs.declared.reactions.ReactionFault.{ReactionFault}
use Rattle.cec_commands.specs.declared.reactions.ReactionFault.TheVariants.{Run, NotConstructive}
use Rattle.cec_commands.specs.declared.unknown_wires.UnknownWires.{UnknownWires}
use Rattle.cec_commands.specs.ReactionEnds.{IsInterfaceOf, IsReactionsOutcome, LeavesTrace}
use Rattle.cec_commands.specs.ReactionSteps.{RunnerShows, RunsReactions, StopsRunner}
use Rattle.cec_commands.specs.Runs.{ShowsRun, line_answer}
use Rattle.cec_commands.specs.Subjects.{run_outcome}
use Rattle.cec_commands.specs.TriRuns.{LeavesReactions, StopsTrace}
use Rattle.grc_ternary_stops.proofs.Exports.{answers_reached}
use Rattle.cec_commands.proofs.RunnerReactions.{shows_program, stops_program}

-- ---- the names of a program

-- the first of some names differ where all do
differ_before : (n m : ℕ) (names : List (List ℕ)) → n ≤ m → IsTrue (all_differ is_same_name (take m names)) → IsTrue (all_differ is_same_name (take n names))
differ_before n m names le differ =
    let some = take m names in
    let parts = sym (all_differ-append is_same_name (take n some) (drop n some)) ∙ ap (all_differ is_same_name) (take-append-drop n some) ∙ differ in
    let both = and_parts (all_differ is_same_name (take n some) && none_shared is_same_name (take n some) (drop n some))
    (all_differ is_same_name (drop n some)) parts in
    let first = (and_parts (all_differ is_same_name (take n some)) (none_shared is_same_name (take n some) (drop n some)) both.0).0 in
    subst (λ l. IsTrue (all_differ is_same_name l)) (take-take n m names le) first

pub given_differ : (p : Program) (i : Interface) → HasNames p → IsInterfaceOf p i → IsTrue (all_differ is_same_name i.given.items)
given_differ p i names is =
    subst (λ l. IsTrue (all_differ is_same_name l)) (sym is.given) (differ_before (given_count p) (interface_count p) p.signals (omega arith) names.differ)

-- ---- the end of a run

front_before : (r : Reading) (items more : List Item) → IsTraceFront r (items ++ more) → IsTraceFront r items
front_before r [] more f = tt
front_before r (Reset ∷ items) more f = (f.0, f.1, front_before (record r { at = f.0 }) items more f.2)
front_before r (Event event ∷ items) more f = (f.0, f.1, f.2, front_before (record r { at = f.0; instant = r.instant + 1 }) items more f.3)

-- as any run
fault_left : (P : Result (Unit {0}) RunFault → Type 0) (A : UnknownWires → Type 0) (s : SinkChange) (fault : RunFault) → P (Err fault)
    → LeavesReactions P A s (run_outcome (Err fault))
fault_left P A s (runs.Trace fault) h = h
fault_left P A s runs.Write h = h
fault_left P A s runs.NoMemory h = inr h

module _ (g : Graph) (old : Runner) (is : IsGraphOf g (program_of g.program)) (same : old.graph ≡ g) (first : state_in old ≡ Initial) (trace : Reading)
    (s : SinkChange) where
  abbrev p : Program
  p = program_of g.program

  shown_as : (result : Result (Unit {0}) RunFault) → RunsTrace (Brings RunnerShows (outgoing_names p) old) trace s result
      → RunsTrace (ShowsRun p) trace s result
  shown_as result h =
      runs-so (Brings RunnerShows (outgoing_names p) old) (ShowsRun p) trace s result
      (λ items text b. shows_program old p items text (ap (λ (x : Graph). program_of x.program) same) first b) h

  -- where the names of the wires find no memory, the lines are there all the same
  lacks_names : (new : Runner) (number : ℕ) → StopsRunner (outgoing_names p) trace old new s number → RunsTrace (ShowsRun p) trace s (Err runs.NoMemory)
  lacks_names new number o =
      let text = answer_lines (outgoing_names p) (map line_answer o.answers) in (
        o.items,
        text,
        front_before trace o.items (Event o.event ∷ []) o.front,
        record { answers = o.answers; constructive = answers_reached g old o.last o.items o.answers same first o.reaches; lines = refl },
        o.came.faults,
        record { taken = length text; gains = subst (Gains s.before s.after) (sym (take_all (length text) text (omega arith))) o.came.whole },
      )

  stop_left : (new : Runner) (number : ℕ) (outcome : Outcome) → StopsRunner (outgoing_names p) trace old new s number
      → IsReactionsOutcome g new.unknown (Err (NotConstructive number)) outcome
      → LeavesReactions (RunsTrace (ShowsRun p) trace s) (λ wires. StopsTrace p trace s wires.instant (map wire_name_of wires.wires.items)) s outcome
  stop_left new number outcomes.Done o is_outcome = absurd is_outcome
  stop_left new number outcomes.Usage o is_outcome = absurd is_outcome
  stop_left new number (outcomes.FileFault file) o is_outcome = absurd is_outcome
  stop_left new number (outcomes.Static fault) o is_outcome = absurd is_outcome
  stop_left new number (outcomes.Cyclic cycle) o is_outcome = absurd is_outcome
  stop_left new number (outcomes.Trace fault) o is_outcome = absurd is_outcome
  stop_left new number (outcomes.BadText fault) o is_outcome = absurd is_outcome
  stop_left new number (outcomes.Limit quantity) o is_outcome = absurd is_outcome
  stop_left new number outcomes.WriteFault o is_outcome = absurd is_outcome
  stop_left new number outcomes.NoMemory o is_outcome = inr (lacks_names new number o)
  stop_left new number (outcomes.NotConstructive wires) o is_outcome =
      subst (λ n. StopsTrace p trace s n (map wire_name_of wires.wires.items)) (sym is_outcome.0)
      (stops_program g old new trace s number (map wire_name_of wires.wires.items) is same first o is_outcome.1)

  left_by : (new : Runner) (ended : Result (Unit {0}) ReactionFault) (outcome : Outcome) → RunsReactions (outgoing_names p) trace old new s ended
      → IsReactionsOutcome g new.unknown ended outcome
      → LeavesReactions (RunsTrace (ShowsRun p) trace s) (λ wires. StopsTrace p trace s wires.instant (map wire_name_of wires.wires.items)) s outcome
  left_by new (Ok done) outcome h is_outcome =
      subst (LeavesReactions (RunsTrace (ShowsRun p) trace s) (λ wires. StopsTrace p trace s wires.instant (map wire_name_of wires.wires.items)) s)
      (sym is_outcome) (shown_as (Ok tt) h)
  left_by new (Err (Run fault)) outcome h is_outcome =
      subst (LeavesReactions (RunsTrace (ShowsRun p) trace s) (λ wires. StopsTrace p trace s wires.instant (map wire_name_of wires.wires.items)) s)
      (sym is_outcome)
      (fault_left (RunsTrace (ShowsRun p) trace s) (λ wires. StopsTrace p trace s wires.instant (map wire_name_of wires.wires.items)) s fault
      (shown_as (Err fault) h))
  left_by new (Err (NotConstructive number)) outcome h is_outcome = stop_left new number outcome h is_outcome

-- the run of a program's graph by the program's interface
pub reactions_left : (g : Graph) (old new : Runner) (i : Interface) (trace : List ℕ) (s : SinkChange) (unknown : List Bool)
    (ended : Result (Unit {0}) ReactionFault) (outcome : Outcome)
    → IsGraphOf g (program_of g.program) → old.graph ≡ g → state_in old ≡ Initial → IsInterfaceOf (program_of g.program) i
    → RunsReactions i.outgoing.items (beginning trace i.given.items (map relation_of i.relations.items)) old new s ended → unknown ≡ new.unknown
    → IsReactionsOutcome g unknown ended outcome → LeavesTrace (program_of g.program) trace s outcome
reactions_left g old new i trace s unknown ended outcome is same first interface runs told is_outcome =
    let p = program_of g.program in
    let by_name = subst (λ n. RunsReactions n (beginning trace i.given.items (map relation_of i.relations.items)) old new s ended) interface.outgoing runs in
    let by_input = subst (λ n. RunsReactions (outgoing_names p) (beginning trace n (map relation_of i.relations.items)) old new s ended)
    interface.given by_name in
    let by_relation = subst (λ n. RunsReactions (outgoing_names p) (beginning trace (given_names p) n) old new s ended) interface.relations by_input in
    left_by g old is same first (beginning trace (given_names p) p.relations) s new ended outcome by_relation
    (subst (λ u. IsReactionsOutcome g u ended outcome) told is_outcome)

-- The command that runs a source by three-valued reactions: what the steps say of the whole.
use Rattle.std.proofs.Common.{ℕ, ◌≤◌, Bool, List, length, map, Option, Some, Result, Ok, Err, inl, subst, sym}
use Rattle.base_types.specs.declared.bounds.TheConstants.Limits.{SOURCE_BYTES}
use Rattle.base_types.specs.declared.files.reading.FileFault.{FileFault}
use Rattle.base_types.specs.declared.files.reading.FileFault.TheVariants as reading
use Rattle.base_types.specs.Reading.{Reads, KeepsFaults}
use Rattle.est_kernel.specs.Plain.{Program, given_names, program_of}
use Rattle.grc_graph.specs.declared.graph.Graph.{Graph}
use Rattle.grc_graph.specs.PlainWireNames.{wire_name_of}
use Rattle.run_trace_io.specs.Answers.{beginning}
use Rattle.base_types.specs.SinkChanges.{SinkChange, IsUntouched}
use Rattle.run_over_traces.specs.declared.running.RunFault.{RunFault}
use Rattle.run_over_traces.specs.declared.running.RunFault.TheVariants as runs
use Rattle.run_over_traces.specs.Running.{RunsTrace}
use Rattle.est_front.specs.Sources.{StandsFor}
use Rattle.cec_commands.specs.declared.outcome.Outcome.{Outcome}
use Rattle.cec_commands.specs.declared.outcome.Outcome.TheVariants.{Done, Usage, FileFault as Unread, Static, Cyclic, Trace, BadText, Limit, WriteFault}
use Rattle.cec_commands.specs.declared.outcome.Outcome.TheVariants.{NoMemory}
use Rattle.cec_commands.specs.declared.outcome.Outcome.TheVariants.{NotConstructive}
use Rattle.cec_words.specs.declared.common.Which.TheVariants.{First, Second}
use Rattle.cec_commands.specs.declared.reactions.ReactionFault.{ReactionFault}
use Rattle.cec_commands.specs.declared.reactions.ReactionFault.TheVariants as stops
use Rattle.cec_compile.specs.declared.refusal.Limit.TheVariants as limits
use Rattle.cec_compile.specs.declared.refusal.Refusal as refused
use Rattle.cec_compile.specs.declared.refusal.Refusal.TheVariants as refusals
use Rattle.cec_commands.specs.declared.unknown_wires.UnknownWires.{UnknownWires}
use Rattle.cec_text_io.specs.Contents.{Content, Holds, IsHeld}
use Rattle.cec_compile.specs.Graphs.{HasNoGraph, IsBuilt, IsRefusedGraph, StandsForBuilt}
use Rattle.cec_commands.specs.Jobs.{Job, RunTri}
use Rattle.cec_commands.specs.Outcomes.{IsOutcomeOf}
use Rattle.cec_commands.specs.ReactionEnds.{EndsReactions, IsReactionsOutcome, LeavesTrace}
use Rattle.cec_compile.specs.Refusals.{DoesNotCompile, IsRefused, KeepsGraphLimits}
use Rattle.cec_commands.specs.Runs.{ShowsRun}
use Rattle.cec_commands.specs.Statuses.{outcome_of}
use Rattle.cec_commands.specs.Subjects.{unread_outcome, CountsTrace, LongTrace}
use Rattle.cec_commands.specs.TriRuns.{IsGraphSource, ReactsOn, ReactsOver, StopsOver, StopsTrace, LeavesReactions}
use Rattle.cec_compile.proofs.Exports.{own_built}
use Rattle.cec_text_io.proofs.Exports.{long_unread, some_bytes}
use Rattle.cec_commands.proofs.TwoFiles.{leaves_as}

-- ---- graphs that are not there

-- why a program has no graph is why it does not compile
pub no_graph_refused : (p : Program) (refusal : refused.Refusal) → HasNoGraph p refusal → DoesNotCompile p refusal
no_graph_refused p (refusals.Static fault) h = h
no_graph_refused p (refusals.Cyclic cycle) h = absurd h
no_graph_refused p (refusals.Limit quantity) h = h
no_graph_refused p refusals.NoMemory h = h

pub graph_refused : (text : List ℕ) (main : Option (List ℕ)) (refusal : refused.Refusal) → IsRefusedGraph text main refusal → IsRefused text main refusal
graph_refused text main (refusals.Static fault) h = h
graph_refused text main (refusals.Cyclic cycle) h = absurd h
graph_refused text main (refusals.Limit quantity) h = h
graph_refused text main refusals.NoMemory h = h

pub refused_reacts : (main : Option (List ℕ)) (refusal : refused.Refusal) (source : List ℕ) → length source ≤ SOURCE_BYTES → IsRefusedGraph source main refusal
    → ReactsOn main (outcome_of refusal) source
refused_reacts main (refusals.Cyclic cycle) source short r = absurd r
refused_reacts main (refusals.Limit limits.Source) source short r = r
refused_reacts main (refusals.Limit limits.Trace) source short r = absurd r
refused_reacts main (refusals.Limit limits.Text) source short r = absurd r
refused_reacts main refusals.NoMemory source short r = tt
refused_reacts main _ source short r = record { short = short; refused = r }

pub refused_leaves_reactions : (P : Result (Unit {0}) RunFault → Type 0) (A : UnknownWires → Type 0) (s : SinkChange) (refusal : refused.Refusal)
    → IsUntouched s → LeavesReactions P A s (outcome_of refusal)
refused_leaves_reactions P A s (refusals.Static fault) u = u
refused_leaves_reactions P A s (refusals.Cyclic cycle) u = u
refused_leaves_reactions P A s (refusals.Limit quantity) u = u
refused_leaves_reactions P A s refusals.NoMemory u = inl u

-- ---- files that are not read

pub react_agrees_unread : (content : Content) (job : Job) (trace : List ℕ) (fault : FileFault) → Reads content job.name SOURCE_BYTES (Err fault)
    → IsOutcomeOf (Some (RunTri job trace)) content (unread_outcome First limits.Source fault)
react_agrees_unread content job trace reading.Failed read = tt
react_agrees_unread content job trace reading.TooLong read = long_unread content job.name SOURCE_BYTES read
react_agrees_unread content job trace reading.NoMemory read = some_bytes content job.name

pub react_trace_unread : (main : Option (List ℕ)) (bytes : List ℕ) (fault : FileFault) → IsGraphSource main bytes
    → ReactsOn main (unread_outcome Second limits.Trace fault) bytes
react_trace_unread main bytes reading.Failed is = is
react_trace_unread main bytes reading.TooLong is = is
react_trace_unread main bytes reading.NoMemory is = tt

pub reactions_unread : (P : Result (Unit {0}) RunFault → Type 0) (A : UnknownWires → Type 0) (s : SinkChange) (fault : FileFault) → IsUntouched s
    → LeavesReactions P A s (unread_outcome Second limits.Trace fault)
reactions_unread P A s reading.Failed u = u
reactions_unread P A s reading.TooLong u = u
reactions_unread P A s reading.NoMemory u = inl u

pub reactions_unread_first : (P : Result (Unit {0}) RunFault → Type 0) (A : UnknownWires → Type 0) (s : SinkChange) (fault : FileFault) → IsUntouched s
    → LeavesReactions P A s (unread_outcome First limits.Source fault)
reactions_unread_first P A s reading.Failed u = u
reactions_unread_first P A s reading.TooLong u = u
reactions_unread_first P A s reading.NoMemory u = inl u

-- ---- the run

-- such an outcome is one of a run
pub reactions_end : (g : Graph) (unknown : List Bool) (ended : Result (Unit {0}) ReactionFault) (outcome : Outcome)
    → IsReactionsOutcome g unknown ended outcome → EndsReactions outcome
reactions_end g unknown (Ok done) outcome h = subst EndsReactions (sym h) tt
reactions_end g unknown (Err (stops.Run (runs.Trace fault))) outcome h = subst EndsReactions (sym h) tt
reactions_end g unknown (Err (stops.Run runs.Write)) outcome h = subst EndsReactions (sym h) tt
reactions_end g unknown (Err (stops.Run runs.NoMemory)) outcome h = subst EndsReactions (sym h) tt
reactions_end g unknown (Err (stops.NotConstructive number)) NoMemory h = tt
reactions_end g unknown (Err (stops.NotConstructive number)) (NotConstructive wires) h = tt
reactions_end g unknown (Err (stops.NotConstructive number)) others h = absurd h

pub reacted_on : (main : Option (List ℕ)) (bytes : List ℕ) (outcome : Outcome) → EndsReactions outcome → IsGraphSource main bytes → ReactsOn main outcome bytes
reacted_on main bytes Done e is = is
reacted_on main bytes (Trace fault) e is = is
reacted_on main bytes WriteFault e is = is
reacted_on main bytes NoMemory e is = tt
reacted_on main bytes (NotConstructive wires) e is = is
reacted_on main bytes _ e is = absurd e

pub reacted_long : (content : Content) (trace : List ℕ) (outcome : Outcome) → EndsReactions outcome → LongTrace content trace outcome
reacted_long content trace (Limit quantity) e = absurd e
reacted_long content trace _ e = tt

pub reacted_counts : (trace : List ℕ) (outcome : Outcome) (a b : ℕ) (f g : List ℕ) → EndsReactions outcome → KeepsFaults a b f g
    → CountsTrace trace outcome a b f g
reacted_counts trace (Unread file) a b f g e k = absurd e
reacted_counts trace _ a b f g e k = (k.faults, k.failed)

-- what is left of a run, where each end says more
pub reactions_as : (P Q : Result (Unit {0}) RunFault → Type 0) (A B : UnknownWires → Type 0) (s : SinkChange) (outcome : Outcome)
    → ((r : Result (Unit {0}) RunFault) → P r → Q r) → ((wires : UnknownWires) → A wires → B wires) → LeavesReactions P A s outcome
    → LeavesReactions Q B s outcome
reactions_as P Q A B s Done f h l = leaves_as P Q s Done f l
reactions_as P Q A B s Usage f h l = leaves_as P Q s Usage f l
reactions_as P Q A B s (Unread file) f h l = leaves_as P Q s (Unread file) f l
reactions_as P Q A B s (Static fault) f h l = leaves_as P Q s (Static fault) f l
reactions_as P Q A B s (Cyclic cycle) f h l = leaves_as P Q s (Cyclic cycle) f l
reactions_as P Q A B s (Trace fault) f h l = leaves_as P Q s (Trace fault) f l
reactions_as P Q A B s (BadText fault) f h l = leaves_as P Q s (BadText fault) f l
reactions_as P Q A B s (Limit quantity) f h l = leaves_as P Q s (Limit quantity) f l
reactions_as P Q A B s WriteFault f h l = leaves_as P Q s WriteFault f l
reactions_as P Q A B s NoMemory f h l = leaves_as P Q s NoMemory f l
reactions_as P Q A B s (NotConstructive wires) f h l = h wires l

-- ---- a source with a graph

own_source : (bytes : List ℕ) (main : Option (List ℕ)) (b : Graph) → StandsForBuilt bytes main b → StandsFor bytes main (program_of b.program)
own_source bytes main b s = subst (StandsFor bytes main) (sym s.built.graph.program) s.source

built_limits : (b : Graph) (p : Program) → IsBuilt b p → KeepsGraphLimits p
built_limits b p is = record { few_instances = is.few; few_wires = is.graph.few }

pub built_source : (main : Option (List ℕ)) (bytes : List ℕ) (b : Graph) → length bytes ≤ SOURCE_BYTES → StandsForBuilt bytes main b → IsGraphSource main bytes
built_source main bytes b short s = record {
  program = s.program;
  short = short;
  source = s.source;
  limits = built_limits b s.program s.built;
}

pub trace_left : (content : Content) (name : List ℕ) (main : Option (List ℕ)) (bytes : List ℕ) (b : Graph) (items : List ℕ) (s : SinkChange) (outcome : Outcome)
    → length bytes ≤ SOURCE_BYTES → StandsForBuilt bytes main b → IsHeld content name items → LeavesTrace (program_of b.program) items s outcome
    → LeavesReactions (λ ended. Holds content name (λ i. ReactsOver main bytes i s ended))
    (λ wires. Holds content name (λ i. StopsOver main bytes i s wires.instant (map wire_name_of wires.wires.items))) s outcome
trace_left content name main bytes b items s outcome short stands held left =
    let p = program_of b.program in
    let source = own_source bytes main b stands in
    let limits = built_limits b p (own_built b stands.program stands.built) in
    let reading = beginning items (given_names p) p.relations in
    reactions_as (λ ended. RunsTrace (ShowsRun p) reading s ended) (λ ended. Holds content name (λ i. ReactsOver main bytes i s ended))
    (λ wires. StopsTrace p reading s wires.instant (map wire_name_of wires.wires.items))
    (λ wires. Holds content name (λ i. StopsOver main bytes i s wires.instant (map wire_name_of wires.wires.items))) s outcome
    (λ r ran. (items, held, record { program = p; short = short; source = source; limits = limits; ran = ran }))
    (λ wires stopped. (items, held, record { program = p; short = short; source = source; limits = limits; stopped = stopped }))
    left

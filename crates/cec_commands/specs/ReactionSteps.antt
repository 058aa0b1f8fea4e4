-- Inner: a runner of a graph over the items of a trace: one item, and all so far.
use Rattle.std.specs.Prelude.{◌≡◌, ℕ, ◌+◌, ◌<◌, ◌≤◌, Bool, false, List, [], ◌∷◌, ◌++◌, length, map, Option, Some, None}
use Rattle.std.specs.Prelude.{Result, Ok, Err}
use Rattle.base_types.specs.Items.{Item, Event}
use Rattle.base_types.specs.Relations.{MeetsAll}
use Rattle.base_types.specs.SinkChanges.{SinkChange, IsUntouched}
use Rattle.base_types.specs.Writing.{Appends}
use Rattle.est_kernel.specs.Reactions.{Answer}
use Rattle.run_trace_io.specs.Lines.{line}
use Rattle.run_trace_io.specs.Traces.{Reading, next_group}
use Rattle.run_trace_io.specs.Traces as groups
use Rattle.run_over_traces.specs.Languages.{word_of}
use Rattle.run_over_traces.specs.Machines as machines
use Rattle.run_over_traces.specs.Machines.{Brings, answer_lines}
use Rattle.run_over_traces.specs.Running.{IsTraceFront, RunsTrace}
use Rattle.run_over_traces.specs.Steps.{IsStep, Leads, LineCame}
use Rattle.grc_ternary_run.specs.Runners.{Runner}
use Rattle.grc_ternary_stops.specs.Reaches.{Reaches, Reacted, Stuck, answers_from}
use Rattle.cec_commands.specs.declared.reactions.ReactionFault.{ReactionFault}
use Rattle.cec_commands.specs.declared.reactions.ReactionFault.TheVariants.{Run, NotConstructive}
use Rattle.cec_commands.specs.Runs.{line_answer}
use Rattle.cec_commands.specs.TriRuns.{event_count}

-- these answers, as lines show them
pub record RunnerShows (r : Runner) (items : List Item) (shown : List machines.ShownAnswer) : Type 0 where
  pub answers : List Answer
  pub constructive : answers_from r items ≡ Some answers
  pub told : shown ≡ map line_answer answers

-- what came of an event in the instant with a number
abbrev pub IsReaction : (names : List (List ℕ)) (inputs : List Bool) (instant : ℕ) (old new : Runner) → SinkChange
    → Result (Unit {0}) ReactionFault → Type 0
IsReaction names inputs instant old new s (Ok done) =
    (paused : Bool) × Reacted old inputs paused new × LineCame s (line names new.outputs (word_of paused)) (Ok done)
IsReaction names inputs instant old new s (Err (Run fault)) =
    (paused : Bool) × Reacted old inputs paused new × LineCame s (line names new.outputs (word_of paused)) (Err fault)
IsReaction names inputs instant old new s (Err (NotConstructive number)) =
    (number ≡ instant) × Stuck old inputs new × IsUntouched s

-- one item that was run
pub record OneItem (names : List (List ℕ)) (r later : Reading) (old new : Runner) (s : SinkChange) : Type 0 where
  pub item : Item
  pub answers : List Answer
  pub leads : Leads r (item ∷ []) later
  pub reaches : Reaches old (item ∷ []) answers new
  pub came : Appends s.before s.after s.faults_before s.faults_now (answer_lines names (map line_answer answers))
  pub behind : r.at < later.at
  pub within : later.at ≤ length later.text

-- what came of the next item, with the number of the instant after it
abbrev pub IsReactionStep : (names : List (List ℕ)) (r later : Reading) (old new : Runner) → SinkChange
    → Result (Option ℕ) ReactionFault → Type 0
IsReactionStep names r later old new s (Ok (Some next)) = OneItem names r later old new s × (next ≡ later.instant)
IsReactionStep names r later old new s (Ok None) = IsStep RunnerShows names r later old new s (Ok false)
IsReactionStep names r later old new s (Err (Run fault)) = IsStep RunnerShows names r later old new s (Err fault)
IsReactionStep names r later old new s (Err (NotConstructive number)) =
    (event : List Bool) × (behind : ℕ) × (next_group r ≡ groups.Instant event behind) × MeetsAll r.relations event
    × (number ≡ r.instant) × Stuck old event new × IsUntouched s

-- A runner stops at an event of a trace, after items that led it to where it stays.
pub record StopsRunner (names : List (List ℕ)) (trace : Reading) (old new : Runner) (s : SinkChange) (number : ℕ) :
    Type 0 where
  pub items : List Item
  pub event : List Bool
  pub front : IsTraceFront trace (items ++ Event event ∷ [])
  pub counted : number ≡ trace.instant + event_count items
  pub answers : List Answer
  pub last : Runner
  pub reaches : Reaches old items answers last
  pub stuck : Stuck last event new
  pub came : Appends s.before s.after s.faults_before s.faults_now (answer_lines names (map line_answer answers))

-- what came of a whole trace
abbrev pub RunsReactions : (names : List (List ℕ)) (trace : Reading) (old new : Runner) → SinkChange
    → Result (Unit {0}) ReactionFault → Type 0
RunsReactions names trace old new s (Ok done) = RunsTrace (Brings RunnerShows names old) trace s (Ok done)
RunsReactions names trace old new s (Err (Run fault)) = RunsTrace (Brings RunnerShows names old) trace s (Err fault)
RunsReactions names trace old new s (Err (NotConstructive number)) = StopsRunner names trace old new s number

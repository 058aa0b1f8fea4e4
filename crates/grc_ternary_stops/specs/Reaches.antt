-- Inner: where items lead a runner of a graph.
use Rattle.std.specs.Prelude.{◌≡◌, ℕ, ◌<◌, Bool, List, [], ◌∷◌, ◌++◌, Option, Vec, length, map, slice_index_or, take}
use Rattle.std.specs.declared.alloc.Global.{Global}
use Rattle.base_types.specs.Items.{Item, Event}
use Rattle.est_kernel.specs.Plain.{interface_of}
use Rattle.est_kernel.specs.Reactions.{Answer, before, run_from}
use Rattle.grc_graph.specs.PlainGraphs.{plain_graph}
use Rattle.grc_graph.specs.Walk.{remaining}
use Rattle.grc_ternary.specs.LeastSolutions.{Statuses}
use Rattle.grc_ternary.specs.TriRuns.{tri_machine, state_behind}
use Rattle.base_machines.specs.Machines.{Machine, IsRunFrom}
use Rattle.grc_ternary_run.specs.Runners.{Runner, IsStuck, Stays, Steps, TriReacts, program_in, state_in}
use Rattle.grc_ternary_stops.specs.Stops.{plain_events}

-- what the program of a runner answers to items, from what is left of it on
abbrev pub answers_from : Runner → List Item → Option (List Answer)
answers_from r items =
    run_from (interface_of (program_in r)) (program_in r).body (remaining (state_in r) (program_in r).body) items

-- answers before those of the instants after them
abbrev pub all_before : List Answer → Option (List Answer) → Option (List Answer)
all_before [] later = later
all_before (a ∷ answers) later = before a (all_before answers later)

-- the graph of a runner as a machine of least solutions
abbrev pub machine_of : Runner → Machine Statuses
machine_of r = tri_machine (plain_graph r.graph)

-- Items lead one runner to another: its program gives these answers on the way, and its graph has a run.
pub record Reaches (old : Runner) (items : List Item) (answers : List Answer) (new : Runner) : Type 0 where
  pub graph : new.graph ≡ old.graph
  pub told : (more : List Item) → answers_from old (items ++ more) ≡ all_before answers (answers_from new more)
  pub instants : List Statuses
  pub run : IsRunFrom (machine_of old) (state_in old) items instants
  pub state : state_in new ≡ state_behind (machine_of old) (state_in old) items instants

-- a reaction, and what is said of the program after it
pub record Reacted (old : Runner) (inputs : List Bool) (paused : Bool) (new : Runner) : Type 0 where
  pub reacts : TriReacts old inputs paused new
  pub steps : Steps old inputs paused new

-- no reaction, and the wires that stay unknown
pub record Stuck (old : Runner) (inputs : List Bool) (new : Runner) : Type 0 where
  pub none : IsStuck old inputs new
  pub stays : Stays old inputs new

-- a runner comes to an event to which its program does not react, which has this place
pub record StopsRunner (old new : Runner) (events : List (Vec Bool Global)) (place : ℕ) : Type 0 where
  pub low : place < length events
  pub answers : List Answer
  pub last : Runner
  pub reaches : Reaches old (map Event (take place (plain_events events))) answers last
  pub stuck : Stuck last (slice_index_or (plain_events events) place []) new

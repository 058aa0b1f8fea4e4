-- To believe: runs of a graph by least solutions, and where the run of a program stops.
use Rattle.std.specs.Prelude.{◌≡◌, ◌<◌, Bool, true, false, List, [], ◌∷◌, ◌++◌, filter, length, Some, None}
use Rattle.base_types.specs.Items.{Item, Event, Reset}
use Rattle.est_kernel.specs.Plain.{Program}
use Rattle.est_kernel.specs.Reactions.{Answer, run_of}
use Rattle.est_kernel.specs.Statuses.{Status, Plus, Minus, Unknown}
use Rattle.grc_graph.specs.GraphRuns.{PlainGraph, graph_of, next_state, program_wires}
use Rattle.grc_graph.specs.Walk.{State, Initial}
use Rattle.grc_graph.specs.Wires.{Wire}
use Rattle.grc_ternary.specs.LeastSolutions.{IsKnown, IsLeast, Statuses, true_wires}
use Rattle.base_machines.specs.Machines.{Machine, IsRun}

-- A graph as a machine of least solutions: in an instant the least solution has no unknown wire, and after it is the
-- state of the leaves whose next formula is true.
abbrev pub tri_machine : PlainGraph → Machine Statuses
tri_machine g = record {
  State = State;
  start = Initial;
  instant = λ q event T. IsLeast g q event T × IsKnown T;
  next = λ q event T. next_state g q event (true_wires T);
}

-- the state that a run leads to; where the items have more events than there are instants, none is said
abbrev pub state_behind : {X : Type 0} → (M : Machine X) → M.State → List Item → List X → M.State
state_behind M s [] xs = s
state_behind M s (Event inputs ∷ items) (x ∷ xs) = state_behind M (M.next s inputs x) items xs
state_behind M s (Event inputs ∷ items) [] = s
state_behind M s (Reset ∷ items) xs = state_behind M M.start items xs

abbrev pub is_unknown : Status → Bool
is_unknown Plus = false
is_unknown Minus = false
is_unknown Unknown = true

-- The program reacts in each instant of some items, and does not react to the event after them: in the state that the
-- items lead to, the least solution of its graph leaves these wires unknown, and there are some.
pub record StopsAt (p : Program) (items : List Item) (event : List Bool) (unknown : List Wire) : Type 0 where
  pub answers : List Answer
  pub constructive : run_of p items ≡ Some answers
  pub stops : run_of p (items ++ Event event ∷ []) ≡ None
  pub instants : List Statuses
  pub run : IsRun (tri_machine (graph_of p)) items instants
  pub statuses : Statuses
  pub least : IsLeast (graph_of p) (state_behind (tri_machine (graph_of p)) Initial items instants) event statuses
  pub left : unknown ≡ filter (λ w. is_unknown (statuses w)) (program_wires p)
  pub some : 0 < length unknown

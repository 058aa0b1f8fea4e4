-- Contract: what a runner of a graph does in an instant, and what that is for the program.
use Rattle.std.specs.Prelude.{◌≡◌, Bool, true, false, ◌==◌, List, length, map, replicate, All, Some, None}
use Rattle.std.specs.List.{list_any}
use Rattle.est_kernel.specs.Plain.{Program, program_of, interface_of, outgoing_count}
use Rattle.est_kernel.specs.Reactions.{Reaction, react}
use Rattle.grc_graph.specs.declared.graph.Graph.{Graph}
use Rattle.grc_graph.specs.GraphRuns.{graph_of, program_wires, formula_value, shown}
use Rattle.grc_graph.specs.PlainGraphs.{names_of, plain_graph}
use Rattle.grc_graph.specs.Selected.{IsState}
use Rattle.grc_graph.specs.Walk.{State, remaining}
use Rattle.grc_solutions_laws.specs.GraphWalks.{SelectsLeaves}
use Rattle.grc_ternary.specs.LeastSolutions.{IsKnown, IsLeast, Statuses, true_wires}
use Rattle.grc_ternary.specs.TriRuns.{is_unknown}
use Rattle.grc_formulas.specs.Occasions.{state_of}

-- what a contract sees of a runner: the graph, whether the next instant is the first, and which leaves are selected in
-- it; what went out in the last instant, and which wires stayed unknown in the last call
pub record Runner : Type 0 where
  pub graph : Graph
  pub boot : Bool
  pub selected : List Bool
  pub outputs : List Bool
  pub unknown : List Bool

-- the program of a runner, and the state in which its next instant begins
abbrev pub program_in : Runner → Program
program_in r = program_of r.graph.program

abbrev pub state_in : Runner → State
state_in r = state_of (plain_graph r.graph).leaves r.boot r.selected

-- for each wire of the graph, in order, whether it is unknown
abbrev pub unknown_wires : Graph → Statuses → List Bool
unknown_wires g T = map (λ w. is_unknown (T w)) (names_of g)

-- a runner before its first event: nothing went out, and nothing stayed unknown
pub record IsFresh (r : Runner) : Type 0 where
  pub boot : r.boot ≡ true
  pub selected : r.selected ≡ replicate (length r.graph.next.items) false
  pub outputs : All (λ b. b ≡ false) r.outputs
  pub unknown : All (λ b. b ≡ false) r.unknown

-- a value for each outgoing signal, and one for each wire of the graph
pub record HasPlaces (r : Runner) : Type 0 where
  pub outputs : length r.outputs ≡ outgoing_count (program_in r)
  pub unknown : length r.unknown ≡ length r.graph.wires.items

-- In the least solution each wire is known: it tells what goes out, whether the program pauses, and the next state.
pub record Steps (old : Runner) (inputs : List Bool) (paused : Bool) (new : Runner) : Type 0 where
  pub statuses : Statuses
  pub least : IsLeast (plain_graph old.graph) (state_in old) inputs statuses
  pub known : IsKnown statuses
  pub outputs : new.outputs ≡ (shown (plain_graph old.graph) (true_wires statuses)).outputs
  pub paused_is : paused ≡ (shown (plain_graph old.graph) (true_wires statuses)).paused
  pub next : new.selected
      ≡ map (formula_value (plain_graph old.graph) (state_in old) inputs (true_wires statuses))
      (plain_graph old.graph).next
  pub later : new.boot ≡ false
  pub graph : new.graph ≡ old.graph
  pub settled : All (λ b. b ≡ false) new.unknown

-- In the least solution some wire stays unknown; the runner is as before, and says which.
pub record Stays (old : Runner) (inputs : List Bool) (new : Runner) : Type 0 where
  pub statuses : Statuses
  pub least : IsLeast (plain_graph old.graph) (state_in old) inputs statuses
  pub marks : new.unknown ≡ unknown_wires old.graph statuses
  pub some : list_any (λ b. b) new.unknown ≡ true
  pub same : new ≡ record old { unknown = new.unknown }

-- What is left of the program in the state reacts to the event, with this answer and into the new state.
pub record TriReacts (old : Runner) (inputs : List Bool) (paused : Bool) (new : Runner) : Type 0 where
  pub reaction : Reaction
  pub is : react (interface_of (program_in old)) (remaining (state_in old) (program_in old).body) inputs ≡ Some reaction
  pub outputs : new.outputs ≡ reaction.answer.outputs
  pub paused_is : paused ≡ (reaction.answer.code == 1)
  pub residual : reaction.residual ≡ remaining (state_in new) (program_in new).body
  pub state : IsState (state_in new) (program_in new).body
  pub leaves : SelectsLeaves (state_in new) (program_in new).body
  pub graph : new.graph ≡ old.graph
  pub settled : All (λ b. b ≡ false) new.unknown

-- It does not react: the runner is as before, and says which wires of the least solution stay unknown.
pub record IsStuck (old : Runner) (inputs : List Bool) (new : Runner) : Type 0 where
  pub none : react (interface_of (program_in old)) (remaining (state_in old) (program_in old).body) inputs ≡ None
  pub marks : (T : Statuses) → IsLeast (graph_of (program_in old)) (state_in old) inputs T
      → new.unknown ≡ map (λ w. is_unknown (T w)) (program_wires (program_in old))
  pub some : list_any (λ b. b) new.unknown ≡ true
  pub same : new ≡ record old { unknown = new.unknown }

-- a reset puts the runner back to its beginning
pub record Resets (old new : Runner) : Type 0 where
  pub same : new.graph ≡ old.graph
  pub fresh : IsFresh new

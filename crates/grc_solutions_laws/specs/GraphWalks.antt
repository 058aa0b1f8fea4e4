-- To believe: the walk of a program's body that a valuation of the wires of its graph tells.
use Rattle.std.specs.Prelude.{◌≡◌, ℕ, Bool, true, false, ◌==◌, ◌||◌, List, slice_index_or, All, Contains, ⊤}
use Rattle.std.specs.List.{list_any}
use Rattle.est_kernel.specs.Plain.{Program, interface_of, interface_count}
use Rattle.est_kernel.specs.Terms.{Term}
use Rattle.est_kernel.specs.Reactions.{Answer, is_given}
use Rattle.est_kernel.specs.StaticCodes.{has_code, resumed_codes}
use Rattle.grc_graph.specs.Layers.{Resumed, Started}
use Rattle.grc_graph.specs.Wires.{Wire, Out, End, listed}
use Rattle.grc_graph.specs.Residuals.{holds}
use Rattle.grc_graph.specs.Scopes.{program_scope}
use Rattle.grc_graph.specs.Walk.{Walk, Values, State, Initial, Selecting, is_initial, body_walk}
use Rattle.grc_graph.specs.Readings.{Valuation, seen_values}
use Rattle.grc_graph.specs.Coherence.{statuses, StartedWalked, ResumedWalked}
use Rattle.grc_graph.specs.SelectionTrees.{body_leaves}
use Rattle.grc_graph.specs.GraphRuns.{ShownInstant, program_wires}

-- the selected pauses of a state: in the first instant there are none
abbrev pub selected_of : State → ℕ → Bool
selected_of Initial = λ m. false
selected_of (Selecting S) = S

-- the values of the program's signals, as its body sees them: of the inputs from the event, of the others from their
-- wires
abbrev pub program_values : Program → List Bool → Valuation → Values
program_values p event V = seen_values (is_given event) V (program_scope p.inputs (interface_count p)) Resumed

-- the walk of the body in a state, under the statuses that the status wires have
abbrev pub graph_walk : Program → State → List Bool → Valuation → Walk
graph_walk p q event V = body_walk (statuses V) q p.body (program_values p event V)

-- A valuation is that of the walk of a state in an event. Each wire of each live instance has the value that the walk
-- under the statuses of the valuation gives it, and these are coherent: the status of a Local's instance is what the
-- walk of its body emits, an outgoing signal is present where the event gives it or the walk emits it. What is no wire
-- of the graph is false.
pub record IsWalkOf (p : Program) (q : State) (event : List Bool) (V : Valuation) : Type 0 where
  pub started : StartedWalked V p.body 0 (Started 0) (program_values p event V) (is_initial q)
  pub resumed : has_code (resumed_codes p.body) ≡ true
      → ResumedWalked V (selected_of q) p.body 0 (program_values p event V) (holds (selected_of q) p.body 0)
  pub outputs : All (λ s. V (Out s) ≡ (is_given event s || (graph_walk p q event V).signals s))
      (interface_of p).outgoing
  pub others : (w : Wire) → (Contains (program_wires p) w → ⊥) → V w ≡ false

-- the selected pauses of a state are leaves of the body's selection tree
abbrev pub SelectsLeaves : State → Term → Type 0
SelectsLeaves Initial body = ⊤
SelectsLeaves (Selecting S) body = (m : ℕ) → S m ≡ true → list_any (λ x. m == x) (body_leaves body) ≡ true

-- whether the body ends with this code, in the layer that runs, and the code that this shows: the one with which it
-- ends, or 0 where nothing runs
abbrev pub ends_with : Valuation → ℕ → Bool
ends_with V k = V (End 0 Resumed k) || V (End 0 (Started 0) k)

abbrev pub shown_code : Valuation → ℕ
shown_code V = slice_index_or (listed (ends_with V)) 0 0

-- what is seen of an answer: its outputs, and whether its code is 1
abbrev pub shown_answer : Answer → ShownInstant
shown_answer a = record { outputs = a.outputs; paused = a.code == 1 }

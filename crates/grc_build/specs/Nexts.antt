-- Inner: the instances of one statement among those of a body, and what they say of the next state.
use Rattle.std.specs.Prelude.{◌≡◌, ℕ, ◌<◌, ◌≤◌, Bool, ◌==◌}
use Rattle.std.specs.Prelude.{List, [], ◌∷◌, ◌++◌, length, map, filter, take, drop, flat_map}
use Rattle.est_kernel.specs.Terms.{Term}
use Rattle.grc_graph.specs.Equations.{kept_start, next_formula}
use Rattle.grc_graph.specs.Formulas.{Formula, Selected, Held, Conjunction}
use Rattle.grc_graph.specs.Instances.{Instance}
use Rattle.grc_graph.specs.InstanceLaws.{is_resumed_pause}
use Rattle.grc_graph.specs.Layers.{Layer, Resumed, body_layers}
use Rattle.grc_graph.specs.PlainGraphs.{instance_at}

abbrev pub is_of : ℕ → Instance → Bool
is_of n x = x.path == n

-- the layers of the instances of the statement at n, from a place in the list on
abbrev pub layers_from : List Instance → (n place : ℕ) → List Layer
layers_from insts n place = map (λ x. x.layer) (filter (is_of n) (drop place insts))

-- the instances from i up to a place are of one statement, and the one at that place is not
pub record IsRun (insts : List Instance) (i place : ℕ) : Type 0 where
  pub begun : i < place
  pub within : place ≤ length insts
  pub same : (k : ℕ) → i ≤ k → k < place → (instance_at insts k).path ≡ (instance_at insts i).path
  pub ended : place < length insts → ¬ ((instance_at insts place).path ≡ (instance_at insts i).path)

-- what selects the pause at n in the next instant: its starts from a place in the list on, and that it is held
abbrev pub selected_from : List Instance → (n place : ℕ) → List Formula
selected_from insts n place =
    flat_map (kept_start n) (layers_from insts n place) ++ Conjunction (Selected n) (Held n Resumed) ∷ []

-- the formulas of the leaves among the instances in front of a place in the list
abbrev pub leaves_before : Term → List Instance → ℕ → List Formula
leaves_before body insts place =
    map (λ x. next_formula x.path (body_layers body x.path)) (filter (is_resumed_pause body) (take place insts))

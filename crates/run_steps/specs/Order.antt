-- Inner: the graph of equations between slots, with an edge from each equation to each one whose output it reads.
use Rattle.std.specs.Prelude.{◌≡◌, ℕ, ◌+◌, ◌-◌, ◌<◌, nat_lt, List, [], ◌∷◌, ◌++◌, length, map, All, slice_index}
use Rattle.std.specs.Prelude.{slice_index_or, false, if◌then◌else◌}
use Rattle.base_digraph.specs.Walks.{IsClosedWalk}
use Rattle.run_steps.specs.Slots.{slot_in}
use Rattle.run_steps.specs.Equations.{NameEquation}

-- the edges of an equation that reads these slots, where the slots of the outputs begin at `first`
abbrev pub slot_edges : ℕ → ℕ → List ℕ → List (ℕ × ℕ)
slot_edges first node [] = []
slot_edges first node (slot ∷ slots) =
    if nat_lt slot first then slot_edges first node slots else (node, slot - first) ∷ slot_edges first node slots

-- the edges of equations that read these slots, numbered from this node on
abbrev pub edges_from : ℕ → ℕ → List (List ℕ) → List (ℕ × ℕ)
edges_from first node [] = []
edges_from first node (slots ∷ reads) = slot_edges first node slots ++ edges_from first (node + 1) reads

-- the nodes from the last rank to the first
pub record IsAgainst (ranks order : List ℕ) : Type 0 where
  pub each_place : length order ≡ length ranks
  pub nodes : All (λ node. node < length ranks) order
  pub inverse : (node : ℕ) → node < length ranks → slice_index order (length ranks - 1 - slice_index ranks node) ≡ node

-- the nodes in an order in which each one comes after those that its edges lead to
pub record IsEvaluationOrder (count : ℕ) (edges : List (ℕ × ℕ)) (order : List ℕ) : Type 0 where
  pub ranks : List ℕ
  pub each_node : length ranks ≡ count
  pub below : All (λ r. r < count) ranks
  pub grow : All (λ e. slice_index ranks e.0 < slice_index ranks e.1) edges
  pub against : IsAgainst ranks order

-- the names of the outputs along a walk
abbrev pub names_along : List (List ℕ) → ℕ → List ℕ → List (List ℕ)
names_along names first walk = map (λ node. slice_index_or names (first + node) []) walk

abbrev pub NoWalk : List (ℕ × ℕ) → Type 0
NoWalk edges = (walk : List ℕ) → ¬ IsClosedWalk edges walk

-- these names are the outputs along a closed walk
pub record AreWalked (edges : List (ℕ × ℕ)) (names : List (List ℕ)) (first : ℕ) (found : List (List ℕ)) : Type 0 where
  pub walk : List ℕ
  pub closed : IsClosedWalk edges walk
  pub found_are : found ≡ names_along names first walk

-- for each equation the slots that it reads
abbrev pub slots_read : List (List ℕ) → List NameEquation → List (List ℕ)
slots_read names equations = map (λ e. map (slot_in names) e.reads) equations

abbrev pub no_equation : NameEquation
no_equation = record { output = []; reads = []; value = λ v. false }

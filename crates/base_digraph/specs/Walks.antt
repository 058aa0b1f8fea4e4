-- Contract: walks in a directed graph, and ranks of its nodes. A graph is the list of its edges, each a pair of nodes
-- (from, to), and a node is a number.
use Rattle.std.specs.Prelude.{◌≡◌, ℕ, ◌+◌, ◌-◌, ◌<◌, List, length, slice_index, All, Contains}

abbrev pub HasEdge : List (ℕ × ℕ) → ℕ → ℕ → Type 0
HasEdge edges from to = Contains edges (from, to)

-- every edge joins two of the nodes 0 to count - 1
abbrev pub JoinsNodes : ℕ → List (ℕ × ℕ) → Type 0
JoinsNodes count edges = All (λ e. (e.0 < count) × (e.1 < count)) edges

-- a walk of one edge or more that ends where it began: each node of the list has an edge to the next, and the last one
-- to the first
pub record IsClosedWalk (edges : List (ℕ × ℕ)) (walk : List ℕ) : Type 0 where
  pub some_node : 0 < length walk
  pub steps : (k : ℕ) → k + 1 < length walk → HasEdge edges (slice_index walk k) (slice_index walk (k + 1))
  pub closes : HasEdge edges (slice_index walk (length walk - 1)) (slice_index walk 0)

-- the rank of each node: below the number of nodes, and greater at the end of an edge than at its beginning
pub record AreRanks (count : ℕ) (edges : List (ℕ × ℕ)) (ranks : List ℕ) : Type 0 where
  pub each_node : length ranks ≡ count
  pub below : All (λ r. r < count) ranks
  pub grow : All (λ e. slice_index ranks e.0 < slice_index ranks e.1) edges

-- the nodes in the order of their ranks: the node with rank k stands at place k, so no two nodes have one rank
pub record IsOrderOf (ranks order : List ℕ) : Type 0 where
  pub each_place : length order ≡ length ranks
  pub inverse : (node : ℕ) → node < length ranks → slice_index order (slice_index ranks node) ≡ node

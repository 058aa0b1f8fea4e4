-- Inner: where the run of edges from one wire begins and ends.
use Rattle.std.specs.Prelude.{◌≡◌, ℕ, ◌+◌, ◌<◌, ◌≤◌, true, false, nat_lt, nat_le, List, length, slice_index}
use Rattle.std.specs.List.Sorted.{IsPartitionPoint}
use Rattle.grc_graph.specs.WireOrders.{WireEdge, edge_at}

-- the edges before this place begin below the wire, and the others do not
abbrev pub SplitsBelow : ℕ → List WireEdge → ℕ → Type 0
SplitsBelow v pairs k =
    IsPartitionPoint (λ (e : WireEdge). nat_lt e.0.0 v ≡ true) (λ (e : WireEdge). nat_lt e.0.0 v ≡ false) pairs k

-- the edges before this place begin at the wire or below it, and the others do not
abbrev pub SplitsAbove : ℕ → List WireEdge → ℕ → Type 0
SplitsAbove v pairs k =
    IsPartitionPoint (λ (e : WireEdge). nat_le e.0.0 v ≡ true) (λ (e : WireEdge). nat_le e.0.0 v ≡ false) pairs k

-- the edges before this place begin below the wire
abbrev pub BeginBelow : ℕ → List WireEdge → ℕ → Type 0
BeginBelow v pairs k = (i : ℕ) → i < k → (edge_at pairs i).0.0 < v

-- for each wire where the edges from it begin, and at last the number of edges
pub record AreBegins (count : ℕ) (pairs : List WireEdge) (begins : List ℕ) : Type 0 where
  pub each : length begins ≡ count + 1
  pub within : (w : ℕ) → w ≤ count → slice_index begins w ≤ length pairs
  pub splits : (w : ℕ) → w ≤ count → SplitsBelow w pairs (slice_index begins w)

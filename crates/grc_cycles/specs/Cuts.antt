-- To believe: what is counted of the cycles of dependency edges.
use Rattle.std.specs.Prelude.{◌≡◌, ℕ, zero, suc, ◌+◌, Bool, ◌==◌, ◌&&◌, nat_le, if◌then◌else◌, max, List, [], ◌∷◌}
use Rattle.std.specs.Prelude.{length, map, slice_index, count_by}
use Rattle.std.specs.List.{list_any, range_with_len}
use Rattle.grc_graph.specs.WireOrders.{WireEdge}

-- Each wire has a place, in a list by its number. An edge is a back edge where it does not lead to a higher place. So
-- each cycle has one.
abbrev pub is_back : (places : List ℕ) → WireEdge → Bool
is_back places e = nat_le (slice_index places e.1.0) (slice_index places e.0.0)

-- A wire that a back edge enters is a cut. So without the cuts there is no cycle.
abbrev pub is_cut : (places : List ℕ) → List WireEdge → ℕ → Bool
is_cut places pairs w = list_any (λ e. is_back places e && e.1.0 == w) pairs

-- the first place above an edge from one place to another that comes down to place k
abbrev pub top_of : (from to k : ℕ) → ℕ
top_of from to k = if nat_le to from && to == k then from + 1 else 0

-- the same above all edges that come down to place k
abbrev pub top_at : (places : List ℕ) → List WireEdge → ℕ → ℕ
top_at places [] k = 0
top_at places (e ∷ es) k =
    max (top_of (slice_index places e.0.0) (slice_index places e.1.0) k) (top_at places es k)

-- the same above all edges that come down below place k
abbrev pub top_below : (places : List ℕ) → List WireEdge → ℕ → ℕ
top_below places pairs zero = 0
top_below places pairs (suc k) = max (top_below places pairs k) (top_at places pairs k)

-- A component ends at a place where the back edges that come down to it, or below, reach up to it and no further. So no
-- cycle goes from one component to another.
abbrev pub ends_at : (places : List ℕ) → List WireEdge → ℕ → Bool
ends_at places pairs k = top_below places pairs (k + 1) == k + 1

-- how many of these numbers, from 0 on, meet a test
abbrev pub count_below : ℕ → (ℕ → Bool) → ℕ
count_below count test = count_by (λ b. b) (map test (range_with_len 0 count))

abbrev pub component_count : (places : List ℕ) → List WireEdge → ℕ
component_count places pairs = count_below (length places) (ends_at places pairs)

abbrev pub cut_count : (places : List ℕ) → List WireEdge → ℕ
cut_count places pairs = count_below (length places) (is_cut places pairs)

-- Along some places of so many wires there are this number of components and of cuts.
pub record HaveCounts (count : ℕ) (pairs : List WireEdge) (components cuts : ℕ) : Type 0 where
  pub places : List ℕ
  pub each_wire : length places ≡ count
  pub components_are : components ≡ component_count places pairs
  pub cuts_are : cuts ≡ cut_count places pairs

-- To believe: dependency edges, ranks and evaluation orders by wire numbers. The wires of a graph are numbered from 0
-- in their order, and an edge is the pair of the wires that it leads from and to.
use Rattle.std.specs.Prelude.{◌≡◌, ℕ, ◌<◌, Bool, ◌==◌, ◌&&◌, ◌||◌, nat_lt, List, length, slice_index, slice_index_or}
use Rattle.std.specs.Prelude.{count_by, IsTrue, All, AllPairs}
use Rattle.base_types.specs.declared.indices.WireId.{WireId}

abbrev pub WireEdge : Type 0
WireEdge = WireId × WireId

-- the wire at a place of a list
abbrev pub wire_at : List WireId → ℕ → ℕ
wire_at order k = (slice_index_or order k (record { 0 = 0 })).0

-- the edge at a place of a list
abbrev pub edge_at : List WireEdge → ℕ → WireEdge
edge_at pairs k = slice_index_or pairs k (record { 0 = 0 }, record { 0 = 0 })

-- an edge stands before another by its beginning, then by its end
abbrev pub edge_before : WireEdge → WireEdge → Bool
edge_before d e = nat_lt d.0.0 e.0.0 || (d.0.0 == e.0.0 && nat_lt d.1.0 e.1.0)

-- each edge joins two of so many wires, and the edges ascend, so that none stands twice
pub record AreEdges (count : ℕ) (pairs : List WireEdge) : Type 0 where
  pub join : All (λ e. (e.0.0 < count) × (e.1.0 < count)) pairs
  pub ascend : AllPairs (λ d e. IsTrue (edge_before d e)) pairs

-- ranks, one for each wire: an edge goes to a greater rank
pub record AreRanks (count : ℕ) (pairs : List WireEdge) (ranks : List ℕ) : Type 0 where
  pub each_wire : length ranks ≡ count
  pub grow : All (λ e. slice_index ranks e.0.0 < slice_index ranks e.1.0) pairs

-- how often a wire is in a list
abbrev pub times : List WireId → ℕ → ℕ
times order w = count_by (λ v. v.0 == w) order

-- A list of so many wires, each once, in which no wire stands before one that has an edge to it.
pub record IsWireOrder (count : ℕ) (pairs : List WireEdge) (order : List WireId) : Type 0 where
  pub each_place : length order ≡ count
  pub in_range : All (λ w. w.0 < count) order
  pub each_once : (w : ℕ) → w < count → times order w ≡ 1
  pub along : (k i j : ℕ) → k < length pairs → i < length order → j < length order
      → wire_at order i ≡ (edge_at pairs k).0.0 → wire_at order j ≡ (edge_at pairs k).1.0 → i < j

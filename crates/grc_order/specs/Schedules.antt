-- Inner: how far the placing of wires has come.
use Rattle.std.specs.Prelude.{◌≡◌, ℕ, ◌+◌, ◌<◌, Bool, not, ◌==◌, ◌&&◌, if◌then◌else◌, List, length, filter}
use Rattle.std.specs.Prelude.{slice_index, count_by, All}
use Rattle.base_types.specs.declared.indices.WireId.{WireId}
use Rattle.grc_graph.specs.declared.orders.Edges.{Edges}
use Rattle.grc_graph.specs.WireOrders.{WireEdge, wire_at, edge_at, times}
use Rattle.grc_order.specs.declared.schedule.Schedule.{Schedule}

-- an edge into a wire, from a wire that is not placed
abbrev pub holds_back : List WireId → ℕ → WireEdge → Bool
holds_back placed w e = e.1.0 == w && times placed e.0.0 == 0

-- the edges from a wire
abbrev pub edges_from : ℕ → List WireEdge → List WireEdge
edges_from v pairs = filter (λ e. e.0.0 == v) pairs

-- how many of these edges lead to a wire
abbrev pub arrivals : List WireEdge → ℕ → ℕ
arrivals pairs w = count_by (λ e. e.1.0 == w) pairs

-- No wire stands before one that has an edge to it.
abbrev pub IsAlong : List WireEdge → List WireId → Type 0
IsAlong pairs placed = (k i j : ℕ) → k < length pairs → i < length placed → j < length placed
    → wire_at placed i ≡ (edge_at pairs k).0.0 → wire_at placed j ≡ (edge_at pairs k).1.0 → i < j

-- Each wire waits for the edges into it from wires that are not placed, and for these further edges. The wires that
-- wait for nothing are the placed and the ready ones, each once.
pub record IsSchedule (count : ℕ) (pairs further : List WireEdge) (waiting : List ℕ)
    (ready placed : List WireId) : Type 0 where
  pub each_wire : length waiting ≡ count
  pub ready_in : All (λ v. v.0 < count) ready
  pub placed_in : All (λ v. v.0 < count) placed
  pub waits : (w : ℕ) → w < count → slice_index waiting w ≡ count_by (holds_back placed w) pairs + arrivals further w
  pub once : (w : ℕ) → w < count → times placed w + times ready w ≡ (if slice_index waiting w == 0 then 1 else 0)
  pub total : count_by (λ n. not (n == 0)) waiting + (length ready + length placed) ≡ count
  pub along : IsAlong pairs placed

abbrev pub IsScheduleOf : Edges → List WireEdge → Schedule → Type 0
IsScheduleOf edges further s =
    IsSchedule edges.count edges.pairs.items further s.waiting.items s.ready.items s.placed.items

-- the wires that wait for nothing
pub record IsReadyOf (waiting : List ℕ) (ready : List WireId) : Type 0 where
  pub in_range : All (λ v. v.0 < length waiting) ready
  pub once : (w : ℕ) → w < length waiting → times ready w ≡ (if slice_index waiting w == 0 then 1 else 0)
  pub total : count_by (λ n. not (n == 0)) waiting + length ready ≡ length waiting

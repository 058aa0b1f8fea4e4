-- The edges from a placed wire are taken off one by one.
use Rattle.std.proofs.Common.{◌≡◌, ℕ, ◌+◌, ◌<◌, List, [], ◌∷◌, ◌++◌, length, slice_index, drop, set, subst, ◌==◌}
use Rattle.std.specs.List.Sorted.{IsPermutation}
use Rattle.std.proofs.lemmas.List.{drop_more}
use Rattle.std.proofs.lemmas.List.Elements.{All-filter}
use Rattle.base_types.specs.declared.indices.WireId.{WireId}
use Rattle.grc_graph.specs.WireOrders.{WireEdge, edge_at, AreEdges}
use Rattle.grc_order.specs.Schedules.{edges_from, IsSchedule}
use Rattle.grc_order.proofs.Placing.{waits-some, IsSchedule-waits, IsSchedule-ready, IsSchedule-mixed}

-- the edge at k of those from a wire
module _ (count : ℕ) (pairs : List WireEdge) (v k : ℕ) (waiting : List ℕ) (ready placed : List WireId) (edges : AreEdges count pairs)
    (schedule : IsSchedule count pairs (drop k (edges_from v pairs)) waiting ready placed) (low : k < length (edges_from v pairs)) where
  pub target_low : (edge_at (edges_from v pairs) k).1.0 < count
  target_low = (All-filter (λ (e : WireEdge). e.0.0 == v) (λ (e : WireEdge). (e.0.0 < count) × (e.1.0 < count)) pairs edges.join k
      (record { 0 = 0 }, record { 0 = 0 }) low).1

  here : IsSchedule count pairs (edge_at (edges_from v pairs) k ∷ drop (k + 1) (edges_from v pairs)) waiting ready placed
  here =
      let e = drop_more (edges_from v pairs) k (record { 0 = 0 }, record { 0 = 0 }) low in
      subst (λ further. IsSchedule count pairs further waiting ready placed) e schedule

  pub release-some : 0 < slice_index waiting (edge_at (edges_from v pairs) k).1.0
  release-some = waits-some count pairs _ _ waiting ready placed here target_low

  pub release-waits : (left : ℕ) → left + 1 ≡ slice_index waiting (edge_at (edges_from v pairs) k).1.0 → (left ≡ 0 → ⊥)
      → IsSchedule count pairs (drop (k + 1) (edges_from v pairs)) (set waiting (edge_at (edges_from v pairs) k).1.0 left) ready placed
  release-waits left less some = IsSchedule-waits count pairs _ _ waiting ready placed here target_low left less some

  pub release-ready : (left : ℕ) → left + 1 ≡ slice_index waiting (edge_at (edges_from v pairs) k).1.0 → left ≡ 0 → (mixed : List WireId)
      → IsPermutation (ready ++ (edge_at (edges_from v pairs) k).1 ∷ []) mixed
      → IsSchedule count pairs (drop (k + 1) (edges_from v pairs)) (set waiting (edge_at (edges_from v pairs) k).1.0 left) mixed placed
  release-ready left less none mixed moved =
      IsSchedule-mixed count pairs _ _ _ mixed placed (IsSchedule-ready count pairs _ _ waiting ready placed here target_low left less none) moved

-- Inner: what is seen while a list is checked.
use Rattle.std.specs.Prelude.{◌≡◌, ℕ, ◌<◌, Bool, false, if◌then◌else◌, List, length, slice_index_or, count_by, IsTrue}
use Rattle.std.specs.Prelude.{All}
use Rattle.base_types.specs.declared.indices.WireId.{WireId}
use Rattle.grc_graph.specs.WireOrders.{WireEdge, edge_at, times}
use Rattle.grc_order.specs.Schedules.{IsAlong}

-- some of these edges leads to a marked wire
abbrev pub LeadToMarked : List WireEdge → List Bool → Type 0
LeadToMarked edges marks = (k : ℕ) × (k < length edges) × IsTrue (slice_index_or marks (edge_at edges k).1.0 false)

-- The wires seen so far are marked, each was seen once, and none of them has an edge to one that was seen before it.
pub record IsChecked (count : ℕ) (pairs : List WireEdge) (seen : List WireId) (marks : List Bool) : Type 0 where
  pub each_wire : length marks ≡ count
  pub in_range : All (λ v. v.0 < count) seen
  pub once : (w : ℕ) → w < count → times seen w ≡ (if slice_index_or marks w false then 1 else 0)
  pub total : count_by (λ b. b) marks ≡ length seen
  pub along : IsAlong pairs seen

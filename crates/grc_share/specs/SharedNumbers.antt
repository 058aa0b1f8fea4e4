-- Contract: the shared wires of a program by number, and what is found of the edges between them.
use Rattle.std.specs.Prelude.{◌≡◌, ℕ, ◌+◌, ◌-◌, ◌<◌, List, length, map, slice_index, All, Contains}
use Rattle.base_digraph.specs.declared.ranking.RanksOrCycle.{RanksOrCycle}
use Rattle.base_digraph.specs.declared.ranking.RanksOrCycle.TheVariants.{Ranks, Cycle}
use Rattle.base_digraph.specs.Walks.{IsOrderOf}
use Rattle.base_types.specs.declared.indices.WireId.{WireId}
use Rattle.est_kernel.specs.Plain.{Program}
use Rattle.grc_graph.specs.GraphRuns.{program_wires}
use Rattle.grc_graph.specs.NumberedEdges.{named_edge}
use Rattle.grc_graph.specs.PlainGraphs.{wire_at}
use Rattle.grc_share.specs.SharedInstances.{body_sharing}
use Rattle.grc_share.specs.SharedWires.{shared_edges, shared_wire, shared_wires}

-- The shared wires of a program: the numbers of their least members, in order, and for each wire of the program the
-- number of its shared wire.
pub record AreSharedWires (p : Program) (least : List WireId) (numbers : List ℕ) : Type 0 where
  pub least_members : map (λ w. wire_at (program_wires p) w.0) least ≡ shared_wires p
  pub least_within : All (λ w. w.0 < length (program_wires p)) least
  pub each_wire : length numbers ≡ length (program_wires p)
  pub within : All (λ k. k < length least) numbers
  pub named : (w : ℕ) → w < length (program_wires p)
      → wire_at (shared_wires p) (slice_index numbers w)
      ≡ shared_wire (body_sharing p.body) (wire_at (program_wires p) w)

-- there is an edge between the shared wires with these numbers
pub record HasSharedEdge (p : Program) (from to : ℕ) : Type 0 where
  pub begins : from < length (shared_wires p)
  pub ends : to < length (shared_wires p)
  pub leads : Contains (shared_edges p) (named_edge (shared_wires p) from to)

-- A walk of one edge or more between shared wires that ends where it began: each has an edge to the next, and the last
-- one to the first.
pub record IsSharedWalk (p : Program) (walk : List ℕ) : Type 0 where
  pub some_wire : 0 < length walk
  pub steps : (k : ℕ) → k + 1 < length walk → HasSharedEdge p (slice_index walk k) (slice_index walk (k + 1))
  pub closes : HasSharedEdge p (slice_index walk (length walk - 1)) (slice_index walk 0)

-- ranks of the shared wires, which each edge goes up in
pub record AreSharedRanks (p : Program) (ranks : List ℕ) : Type 0 where
  pub each_wire : length ranks ≡ length (shared_wires p)
  pub below : All (λ r. r < length (shared_wires p)) ranks
  pub grow : (from to : ℕ) → HasSharedEdge p from to → slice_index ranks from < slice_index ranks to

-- ranks, with the shared wires in their order, or a closed walk
abbrev pub IsSharedAnswer : Program → RanksOrCycle → Type 0
IsSharedAnswer p (Ranks r) = AreSharedRanks p r.ranks.items × IsOrderOf r.ranks.items r.order.items
IsSharedAnswer p (Cycle walk) = IsSharedWalk p walk.items

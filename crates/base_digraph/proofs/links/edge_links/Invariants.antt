use Rattle.std.proofs.Common.{◌≡◌, ℕ, ◌<◌, length, slice_index}
use Rattle.base_digraph.specs.Searches.{edge_at, IsLastInto}
use Rattle.base_digraph.proofs.links.edge_links.Given as goal

abbrev pub invariant-loop-k : goal.invariant-loop-k
invariant-loop-k l = record {
  nodes : length l.last.items ≡ l.count;
  places : length l.earlier.items ≡ l.k;
  into : (node : ℕ) → node < l.count → IsLastInto l.edges node l.k (slice_index l.last.items node);
  before : (j : ℕ) → j < l.k → IsLastInto l.edges (edge_at l.edges j).1 j (slice_index l.earlier.items j);
}

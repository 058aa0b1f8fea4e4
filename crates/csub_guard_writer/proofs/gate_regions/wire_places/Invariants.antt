use Rattle.std.proofs.Common.{◌≡◌, ℕ, ◌<◌, length, drop, None, slice_index_or}
use Rattle.csub_guard_writer.specs.Regions.{carrier}
use Rattle.csub_guard_writer.proofs.gate_regions.wire_places.Given as goal

abbrev pub invariant-loop-k : goal.invariant-loop-k
invariant-loop-k l = record {
  count : length l.places.items ≡ l.count;
  are : (w : ℕ) → w < l.count → slice_index_or l.places.items w None ≡ carrier l.k (drop l.k l.net.gates.items) w;
}

use Rattle.std.proofs.Common.{◌≡◌, ℕ, ◌<◌, length, slice_index, take}
use Rattle.grc_order.specs.Schedules.{arrivals}
use Rattle.grc_order.proofs.schedule.arrival_counts.Given as goal

abbrev pub invariant-loop-edge : goal.invariant-loop-edge
invariant-loop-edge l = record {
  each : length l.counts.items ≡ l.edges.count;
  counts : (w : ℕ) → w < l.edges.count → slice_index l.counts.items w ≡ arrivals (take l.edge-index l.edges.pairs.items) w;
}

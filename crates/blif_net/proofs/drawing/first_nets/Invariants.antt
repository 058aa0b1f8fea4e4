use Rattle.std.proofs.Common.{◌≡◌, ℕ, ◌<◌, length, min, slice_index_or}
use Rattle.base_types.specs.declared.indices.NetId.{NetId}
use Rattle.blif_net.proofs.drawing.first_nets.Given as goal

abbrev pub invariant-loop-slot : goal.invariant-loop-slot
invariant-loop-slot l = record {
  each : length l.nets.items ≡ l.slot;
  own : (k : ℕ) (d : NetId) → k < l.slot → (slice_index_or l.nets.items k d).0 ≡ min k l.first;
}

use Rattle.std.proofs.Common.{◌≡◌, ℕ, ◌<◌, length, slice_index}
use Rattle.grc_ternary_gates.specs.Linking.{IsEarlier, IsLastReader}
use Rattle.grc_ternary_gates.proofs.links.link.Given as goal

abbrev pub invariant-loop-k : goal.invariant-loop-k
invariant-loop-k l = record {
  nodes : length l.links.last.items ≡ length l.gates;
  places : length l.links.earlier.items ≡ l.k;
  into : (node : ℕ) → node < length l.gates → IsLastReader l.side l.gates node l.k (slice_index l.links.last.items node);
  before : (k : ℕ) → k < l.k → IsEarlier l.side l.gates k (slice_index l.links.earlier.items k);
}

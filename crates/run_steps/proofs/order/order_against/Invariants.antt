use Rattle.std.proofs.Common.{◌≡◌, ℕ, ◌<◌, ◌-◌, length, slice_index, All}
use Rattle.run_steps.proofs.order.order_against.Given as goal

abbrev pub invariant-loop-node : goal.invariant-loop-node
invariant-loop-node l = record {
  each_place : length l.order.items ≡ length l.ranks;
  nodes : All (λ k. k < length l.ranks) l.order.items;
  inverse : (k : ℕ) → k < l.node → slice_index l.order.items (length l.ranks - 1 - slice_index l.ranks k) ≡ k;
}

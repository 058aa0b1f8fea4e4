use Rattle.std.proofs.Common.{ℕ, ◌≡◌, ◌<◌, ◌≤◌, ◌^◌, ◌-◌}
use Rattle.net_state_enc.proofs.trees.number_width.Given as goal

abbrev pub invariant-loop-power : goal.invariant-loop-power
invariant-loop-power l = record {
  power : l.power ≡ 2 ^ l.width;
  short : l.width ≤ 32;
  less : (b : ℕ) → b < l.width → 2 ^ b < l.count;
}

abbrev pub decreases-loop-power : goal.decreases-loop-power
decreases-loop-power l = 32 - l.width

-- Inner: that trees of few nodes have small widths.
use Rattle.std.specs.Prelude.{ℕ, ◌+◌, ◌*◌, ◌<◌, ◌≤◌, ◌^◌}
use Rattle.net_state_enc.specs.Widths.{Widths}

-- the widths of a tree of so many nodes
pub record AreNarrow (w : Widths) (nodes : ℕ) : Type 0 where
  pub parts : w.parts ≤ nodes
  pub greatest : w.greatest + w.parts ≤ 2 * nodes + 1
  pub full : w.full ≤ 2 * nodes
  pub loose : w.loose ≤ 2 * nodes + 1

-- widths of which sums of two fit
pub record AreSlight (w : Widths) : Type 0 where
  pub parts : w.parts < 2 ^ 30
  pub greatest : w.greatest < 2 ^ 30
  pub full : w.full < 2 ^ 30
  pub loose : w.loose < 2 ^ 30

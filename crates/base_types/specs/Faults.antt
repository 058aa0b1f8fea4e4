-- To believe: counts of faults, as the outside keeps them.
use Rattle.std.specs.Prelude.{ℕ, ◌+◌, ◌-◌, ◌^◌, ◌≤◌, min}

-- one more, except for a count that stands at the greatest u64, which stays there
abbrev pub one_more : ℕ → ℕ
one_more n = min (n + 1) (2 ^ 64 - 1)

-- the count is greater than before, or stands at the greatest u64; it has not fallen
pub record Rose (before now : ℕ) : Type 0 where
  pub kept : before ≤ now
  pub more : one_more before ≤ now

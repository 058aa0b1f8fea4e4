use Rattle.std.proofs.Common.{◌≡◌, ℕ, ◌<◌, false}
use Rattle.base_types.specs.CodeSet.{members}
use Rattle.est_codes.proofs.rows.has_some.Given as goal

abbrev pub invariant-loop-k : goal.invariant-loop-k
invariant-loop-k l = (j : ℕ) → j < l.k → members l.set j ≡ false

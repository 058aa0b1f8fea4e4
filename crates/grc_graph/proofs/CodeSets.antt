-- Sets with no code.
use Rattle.std.proofs.Common.{◌≡◌, ℕ, ap}
use Rattle.base_types.specs.declared.code_set.CodeSet.{CodeSet}
use Rattle.base_types.specs.CodeSet.{bit, members}

pub members-same : (x y : CodeSet) → x.bits ≡ y.bits → (k : ℕ) → members x k ≡ members y k
unfolding members
members-same x y e k = ap (λ n. bit n k) e

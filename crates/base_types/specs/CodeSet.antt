-- Contract: what a contract sees of a `CodeSet`: the test of its codes.
use Rattle.std.specs.Prelude.{ℕ, Bool, ◌==◌}
use Rattle.std.specs.Int.{bit_at}
use Rattle.base_types.specs.declared.code_set.CodeSet.{CodeSet}

-- whether the number has the bit k
abbrev pub bit : ℕ → ℕ → Bool
bit n k = bit_at n k == 1

-- whether the set has the code k
unfoldable pub members : CodeSet → ℕ → Bool
members c = bit c.bits

-- To believe: decimal numbers.
use Rattle.std.specs.Prelude.{ℕ, ◌+◌, ◌-◌, ◌*◌, ◌^◌, Bool, true, false, not, ◌&&◌, nat_lt, List, [], ◌∷◌}
use Rattle.std.specs.Prelude.{if◌then◌else◌, fold, Option, Some, None}
use Rattle.std.specs.List.{list_all}
use Rattle.base_types.specs.Names.{is_digit}

-- the number that some digits spell
abbrev pub decimal_value : List ℕ → ℕ
decimal_value digits = fold (λ n c. n * 10 + (c - 48)) 0 digits

abbrev pub is_empty : {X : Type 0} → List X → Bool
is_empty [] = true
is_empty (x ∷ xs) = false

-- one or more decimal digits, with a value below 2 ^ 64
abbrev pub number : List ℕ → Option ℕ
number bytes =
    if not (is_empty bytes) && list_all is_digit bytes && nat_lt (decimal_value bytes) (2 ^ 64)
    then Some (decimal_value bytes)
    else None

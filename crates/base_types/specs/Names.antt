-- To believe: the bytes of names, and which names there are. A name is a list of bytes.
use Rattle.std.specs.Prelude.{ℕ, Bool, false, ◌==◌, ◌&&◌, ◌||◌, nat_le, nat_eq, List, [], ◌∷◌}
use Rattle.std.specs.List.{list_all}
use Rattle.std.specs.Cmp.Lexicographic.{pointwise}

-- an ASCII letter
abbrev pub is_letter : ℕ → Bool
is_letter c = nat_le 65 c && nat_le c 90 || nat_le 97 c && nat_le c 122

-- a decimal digit
abbrev pub is_digit : ℕ → Bool
is_digit c = nat_le 48 c && nat_le c 57

-- letters, digits and `_`
abbrev pub is_name_byte : ℕ → Bool
is_name_byte c = is_letter c || is_digit c || c == 95

-- a letter, followed by letters, digits and `_`
abbrev pub is_name : List ℕ → Bool
is_name [] = false
is_name (c ∷ cs) = is_letter c && list_all is_name_byte cs

-- the same bytes in the same order
abbrev pub is_same_name : List ℕ → List ℕ → Bool
is_same_name = pointwise nat_eq

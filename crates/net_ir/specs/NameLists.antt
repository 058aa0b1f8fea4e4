-- To believe: names among others, and names that stand a second time.
use Rattle.std.specs.Prelude.{ℕ, Bool, if◌then◌else◌, List, [], ◌∷◌, Option, Some, None}
use Rattle.std.specs.List.{list_any}
use Rattle.base_types.specs.Names.{is_same_name}

abbrev pub is_among : List ℕ → List (List ℕ) → Bool
is_among name names = list_any (is_same_name name) names

-- the first name that stands a second time, where those before are given
abbrev pub first_again : List (List ℕ) → List (List ℕ) → Option (List ℕ)
first_again before [] = None
first_again before (name ∷ names) = if is_among name before then Some name else first_again (name ∷ before) names

-- To believe: lines about what is refused.
use Rattle.std.specs.Prelude.{ℕ, ◌⊎◌, List, [], ◌∷◌, ◌++◌, flat_map, Option, codes}
use Rattle.base_types.specs.Writing.{Appends, Stops}

-- a sink gained a line: the whole, or a prefix of it where its count of faults rose
abbrev pub GainsLine : (old new : Option (List ℕ)) (before now : ℕ) → List ℕ → Type 0
GainsLine old new before now line = Appends old new before now line ⊎ Stops old new before now line

-- names, joined by ` -> `
abbrev pub joined_names : List (List ℕ) → List ℕ
joined_names [] = []
joined_names (name ∷ names) = name ++ flat_map (λ n. codes " -> " ++ n) names

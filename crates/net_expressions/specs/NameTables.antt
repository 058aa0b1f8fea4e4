-- Inner: tables of names, and names that stand again.
use Rattle.std.specs.Prelude.{ℕ, Bool, ◌||◌, if◌then◌else◌, List, [], ◌∷◌, Option, Some, None}
use Rattle.std.specs.Option.{option_map}
use Rattle.std.specs.Borrow.{Bor}
use Rattle.base_types.specs.Names.{is_same_name}

-- the name that code told, if it told one
abbrev pub name_told : Option (Bor (List ℕ)) → Option (List ℕ)
name_told = option_map (λ w. w.now)

-- the first of some names that is known, or stands a second time
abbrev pub again_from : (List ℕ → Bool) → List (List ℕ) → Option (List ℕ)
again_from known [] = None
again_from known (name ∷ names) =
    if known name then Some name else again_from (λ other. is_same_name other name || known other) names

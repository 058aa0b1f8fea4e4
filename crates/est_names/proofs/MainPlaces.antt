-- The main module is one of the program's.
use Rattle.std.proofs.Common.{◌≡◌, ℕ, ◌<◌, List, [], ◌∷◌, length, Option, Some, None, arith}
use Rattle.std.proofs.lemmas.List.Quantifiers.{position-Some}
use Rattle.base_types.specs.Names.{is_same_name}
use Rattle.est_names.specs.NameFaults.{main_place}

pub main_place-within : (main : Option (List ℕ)) (names : List (List ℕ)) (place : ℕ) → main_place main names ≡ Some place → place < length names
main_place-within None [] place is = absurd (cc)
main_place-within None (name ∷ names) place is =
    let first : 0 ≡ place = cc in
    omega arith
main_place-within (Some name) names place is = (position-Some (is_same_name name) names place [] is).0

-- To believe: names in a list of names.
use Rattle.std.specs.Prelude.{ℕ, Bool, List, map, Option, position}
use Rattle.std.specs.List.{list_any}
use Rattle.base_types.specs.Names.{is_same_name}
use Rattle.est_ast.specs.declared.trees.Name.{Name}

-- names without their places
abbrev pub texts : List Name → List (List ℕ)
texts names = map (λ name. name.text) names

-- the name is one of these
abbrev pub is_among : List ℕ → List (List ℕ) → Bool
is_among name names = list_any (is_same_name name) names

-- where the name stands first, from 0
abbrev pub place_of : List ℕ → List (List ℕ) → Option ℕ
place_of name names = position (is_same_name name) names

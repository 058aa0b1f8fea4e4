-- Lists of what has no depth have none.
use Rattle.std.proofs.Common.{List, [], arith, refl, ◌∷◌, ◌≡◌}
use Rattle.base_reader.proofs.Steps.{list_depth}

pub list_depth-flat : {A : Type 0} (values : List A) → list_depth (λ _. 0) values ≡ 0
list_depth-flat [] = refl
list_depth-flat (v ∷ others) = omega (arith, list_depth-flat others)

-- To believe: lists whose elements are made of those of another and their numbers.
use Rattle.std.specs.Prelude.{ℕ, ◌+◌, List, [], ◌∷◌}

-- what f gives at each element and its number, where n is the number of the first one
abbrev pub numbered : {X Y : Type 0} → (ℕ → X → Y) → ℕ → List X → List Y
numbered f n [] = []
numbered f n (x ∷ xs) = f n x ∷ numbered f (n + 1) xs

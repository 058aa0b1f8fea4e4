-- To believe: lists without repetitions, where a test says which elements are the same.
use Rattle.std.specs.Prelude.{Bool, true, not, ◌&&◌, List, [], ◌∷◌}
use Rattle.std.specs.List.{list_any}

-- no element stands twice
abbrev pub all_differ : {X : Type 0} → (X → X → Bool) → List X → Bool
all_differ same [] = true
all_differ same (x ∷ xs) = not (list_any (same x) xs) && all_differ same xs

-- no element is in both lists
abbrev pub none_shared : {X : Type 0} → (X → X → Bool) → List X → List X → Bool
none_shared same [] ys = true
none_shared same (x ∷ xs) ys = not (list_any (same x) ys) && none_shared same xs ys

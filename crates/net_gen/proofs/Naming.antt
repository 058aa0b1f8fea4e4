-- The names of a net, one after another.
use Rattle.std.proofs.Common.{◌≡◌, ℕ, ◌+◌, ◌<◌, ◌≤◌, List, [], ◌∷◌, ◌++◌, length, map, take, drop, slice_index_or, slice_get, Some, refl, sym, ap, ◌∙◌, subst}
use Rattle.std.proofs.Common.{arith, length-drop}
use Rattle.std.proofs.lemmas.List.{take_more, get_or-drop, map-append}
use Rattle.std.proofs.lemmas.Option.{get_or_from_slice_get, slice_get_within}

-- one more element
pub take-found : {X : Type 0} (xs : List X) (k : ℕ) (x : X) → slice_get xs k ≡ Some x → take (k + 1) xs ≡ take k xs ++ x ∷ []
take-found xs k x e =
    take_more xs k x (slice_get_within xs k x e) ∙ ap (λ y. take k xs ++ y ∷ []) (get_or_from_slice_get xs k x x e)

-- one more element after some
pub take-found_behind : {X : Type 0} (xs : List X) (n k : ℕ) (x : X) → slice_get xs (n + k) ≡ Some x → take (k + 1) (drop n xs) ≡ take k (drop n xs) ++ x ∷ []
take-found_behind xs n k x e =
    let within = slice_get_within xs (n + k) x e in
    let low : k < length (drop n xs) = omega (arith, length-drop n xs) in
    take_more (drop n xs) k x low ∙ ap (λ y. take k (drop n xs) ++ y ∷ []) (get_or-drop n xs k x ∙ get_or_from_slice_get xs (n + k) x x e)

pub map-push : {X Y : Type 0} (f : X → Y) (xs : List X) (x : X) → map f (xs ++ x ∷ []) ≡ map f xs ++ f x ∷ []
map-push f xs x = map-append f xs (x ∷ [])

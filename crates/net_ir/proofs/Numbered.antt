-- Lists by number: what holds of each element, and lists that number the elements of another.
use Rattle.std.proofs.Common.{◌≡◌, ℕ, ◌+◌, ◌<◌, zero, suc, Bool, true, List, [], ◌∷◌, ◌++◌, length, map, get_or, refl, ap}
use Rattle.std.proofs.Common.{◌∙◌, subst, arith, All}
use Rattle.std.specs.Prelude.{flat_map}
use Rattle.std.specs.List.{list_all, list_any}
use Rattle.std.proofs.lemmas.Bool.{and_parts, and_from, or_left, or_right}
use Rattle.std.proofs.lemmas.List.Folds.{list_all-append, list_any-append}
use Rattle.net_ir.specs.Numbered.{numbered}

-- ---- tests of each element

pub list_all-parts : {X : Type 0} (p : X → Bool) (xs ys : List X) → list_all p xs ≡ true → list_all p ys ≡ true → list_all p (xs ++ ys) ≡ true
list_all-parts p xs ys a b =
    list_all-append p xs ys ∙ and_from (list_all p xs) (list_all p ys) a b

-- a test that every element passes
pub list_all-from_All : {X : Type 0} (p : X → Bool) (xs : List X) → All (λ x. p x ≡ true) xs → list_all p xs ≡ true
list_all-from_All p [] all = refl
list_all-from_All p (x ∷ xs) all =
    and_from (p x) (list_all p xs) (all 0 x (omega arith)) (list_all-from_All p xs (λ k d h. all (suc k) d (omega arith)))

-- an element of a list that passes
pub list_all-get_or : {X : Type 0} (p : X → Bool) (xs : List X) (i : ℕ) (d : X) → i < length xs → list_all p xs ≡ true → p (get_or xs i d) ≡ true
list_all-get_or p [] i d h all = absurd (omega arith)
list_all-get_or p (x ∷ xs) zero d h all = (and_parts (p x) (list_all p xs) all).0
list_all-get_or p (x ∷ xs) (suc i) d h all =
    list_all-get_or p xs i d (omega arith) (and_parts (p x) (list_all p xs) all).1

pub list_all-flat_map : {X Y : Type 0} (p : Y → Bool) (g : X → List Y) (xs : List X) → All (λ x. list_all p (g x) ≡ true) xs → list_all p (flat_map g xs) ≡ true
list_all-flat_map p g [] all = refl
list_all-flat_map p g (x ∷ xs) all =
    list_all-parts p (g x) (flat_map g xs) (all 0 x (omega arith)) (list_all-flat_map p g xs (λ k d h. all (suc k) d (omega arith)))

pub list_any-left : {X : Type 0} (p : X → Bool) (xs ys : List X) → list_any p xs ≡ true → list_any p (xs ++ ys) ≡ true
list_any-left p xs ys h =
    list_any-append p xs ys ∙ or_left (list_any p xs) (list_any p ys) h

pub list_any-right : {X : Type 0} (p : X → Bool) (xs ys : List X) → list_any p ys ≡ true → list_any p (xs ++ ys) ≡ true
list_any-right p xs ys h =
    list_any-append p xs ys ∙ or_right (list_any p xs) (list_any p ys) h

-- ---- what stands from a place on

-- ---- numbered lists

pub length-numbered : {X Y : Type 0} (f : ℕ → X → Y) (n : ℕ) (xs : List X) → length (numbered f n xs) ≡ length xs
length-numbered f n [] = refl
length-numbered f n (x ∷ xs) = ap suc (length-numbered f (n + 1) xs)

pub get_or-numbered : {X Y : Type 0} (f : ℕ → X → Y) (n : ℕ) (xs : List X) (i : ℕ) (d : Y) (e : X) → i < length xs
    → get_or (numbered f n xs) i d ≡ f (n + i) (get_or xs i e)
get_or-numbered f n [] i d e h = absurd (omega arith)
get_or-numbered f n (x ∷ xs) zero d e h = let s : n ≡ n + 0 = omega arith in ap (λ m. f m x) s
get_or-numbered f n (x ∷ xs) (suc i) d e h =
    let s : n + 1 + i ≡ n + suc i = omega arith in
    get_or-numbered f (n + 1) xs i d e (omega arith) ∙ ap (λ m. f m (get_or xs i e)) s

pub map-numbered : {X Y Z : Type 0} (g : Y → Z) (f : ℕ → X → Y) (n : ℕ) (xs : List X) → map g (numbered f n xs) ≡ numbered (λ k x. g (f k x)) n xs
map-numbered g f n [] = refl
map-numbered g f n (x ∷ xs) = ap (λ ys. g (f n x) ∷ ys) (map-numbered g f (n + 1) xs)

-- where the numbers do not count
pub numbered-map : {X Y : Type 0} (f : X → Y) (n : ℕ) (xs : List X) → numbered (λ k x. f x) n xs ≡ map f xs
numbered-map f n [] = refl
numbered-map f n (x ∷ xs) = ap (λ ys. f x ∷ ys) (numbered-map f (n + 1) xs)

-- what holds of each element and its number holds of what is made of them
pub All-numbered : {X Y : Type 0} (P : Y → Type 0) (f : ℕ → X → Y) (n : ℕ) (xs : List X) → ((k : ℕ) (d : X) → k < length xs → P (f (n + k) (get_or xs k d)))
    → All P (numbered f n xs)
All-numbered P f n [] each k d h = absurd (omega arith)
All-numbered P f n (x ∷ xs) each zero d h =
    let s : n + 0 ≡ n = omega arith in subst (λ m. P (f m x)) s (each 0 x (omega arith))
All-numbered P f n (x ∷ xs) each (suc k) d h = All-numbered P f (n + 1) xs (λ j e l.
    let s : n + suc j ≡ n + 1 + j = omega arith in subst (λ m. P (f m (get_or xs j e))) s (each (suc j) e (omega arith))) k d (omega arith)

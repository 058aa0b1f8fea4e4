-- Facts on lists and on options.
use Rattle.std.proofs.Common.{All, Bool, List, None, Option, Some, [], ap, append_assoc, arith, cond, count_by, drop, false, get_or, length, map, refl}
use Rattle.std.proofs.Common.{subst, suc, sym, take, true, zero, zero-add, ℕ, ◌++◌, ◌+◌, ◌-◌, ◌<◌, ◌^◌, ◌∙◌, ◌∷◌, ◌≡◌, ◌≤◌}
use Rattle.std.proofs.Math.ListN.{set}
use Rattle.std.proofs.Math.Seq.{get_or-append_seam, set-append_seam}
use Rattle.std.proofs.lemmas.Fmt.{length-decimal-le}
use Rattle.std.proofs.lemmas.List.{drop_more, get_or-map, length-append, length-drop, length-map, length-take, map-append, map-set}
use Rattle.std.proofs.lemmas.List.Elements.{All-cons, All-head, All-nil, All-tail, Contains-append_left, Contains-append_right}
use Rattle.std.proofs.lemmas.List.Folds.{find-append}
use Rattle.std.proofs.lemmas.List.Sums.{sum_by-append, sum_by-cons}
use Rattle.std.specs.List.{AllByRecursion, flat_map, sum_by}
use Rattle.std.specs.Option.{option_or}
use Rattle.std.specs.Prelude.{All, Contains, decimal, filter, find, flat_map}

-- two functions that agree on each element
pub map-equal : {X Y : Type 0} (f g : X → Y) (xs : List X) → All (λ x. f x ≡ g x) xs → map f xs ≡ map g xs
map-equal f g [] same = refl
map-equal f g (x ∷ xs) same =
    let here : f x ≡ g x = same 0 x (omega arith) in
    let rest = map-equal f g xs (λ k d h. same (suc k) d (omega arith)) in
    cc

pub map-composed : {X Y Z : Type 0} (f : Y → Z) (g : X → Y) (xs : List X) → map (λ x. f (g x)) xs ≡ map f (map g xs)
map-composed f g [] = refl
map-composed f g (x ∷ xs) = ap (λ l. f (g x) ∷ l) (map-composed f g xs)

pub all-split : {X : Type 0} (P : X → Type 0) (xs ys : List X) → AllByRecursion P (xs ++ ys) → AllByRecursion P xs × AllByRecursion P ys
all-split P [] ys all = (tt, all)
all-split P (x ∷ xs) ys all = let rest = all-split P xs ys all.1 in ((all.0, rest.0), rest.1)

pub all-unmapped : {X Y : Type 0} (P : Y → Type 0) (f : X → Y) (xs : List X) → All P (map f xs) → All (λ x. P (f x)) xs
all-unmapped P f xs all k d h =
    let wide = length-map xs f in
    subst P (get_or-map f xs k d (f d) h) (all k (f d) (omega arith))

pub map-twice : {X Y Z : Type 0} (g : Y → Z) (f : X → Y) (xs : List X) → map g (map f xs) ≡ map (λ x. g (f x)) xs
map-twice g f [] = refl
map-twice g f (x ∷ xs) = ap (λ l. g (f x) ∷ l) (map-twice g f xs)

-- a piece takes some of the rest
pub pieces-fall : (n : ℕ) (old piece rest : List ℕ) → 0 < length piece → piece ≡ take n old → rest ≡ drop n old → length rest < length old
pieces-fall n old piece rest some p r =
    omega (arith, some, ap length p ∙ length-take n old, ap length r ∙ length-drop n old)

pub drop-at : {X : Type 0} (xs : List X) (i : ℕ) (x : X) → i < length xs → x ≡ get_or xs i x → drop i xs ≡ x ∷ drop (i + 1) xs
drop-at xs i x h is = drop_more xs i x h ∙ ap (λ y. y ∷ drop (i + 1) xs) (sym is)

-- names with `_paused` at their end
pub last-place : {X : Type 0} (xs : List X) (x : X) → length (xs ++ x ∷ []) - 1 ≡ length xs
last-place xs x = omega (arith, length-append xs (x ∷ []))

pub last-is : {X : Type 0} (xs : List X) (x d : X) → get_or (xs ++ x ∷ []) (length (xs ++ x ∷ []) - 1) d ≡ x
last-is xs x d = ap (λ k. get_or (xs ++ x ∷ []) k d) (last-place xs x) ∙ get_or-append_seam xs x [] d

pub find-first-none : {X : Type 0} (p : X → Bool) (x : X) (xs : List X) → find p (x ∷ xs) ≡ None → (p x ≡ false) × (find p xs ≡ None)
find-first-none p x xs is =
    elim (p x) as (λ b. cond b (Some x) (find p xs) ≡ None → (b ≡ false) × (find p xs ≡ None))
    [ true ↦ λ e. cc | false ↦ λ e. (refl, e) ] is

pub option-both-none : {X : Type 0} (a b : Option X) → option_or a b ≡ None → (a ≡ None) × (b ≡ None)
option-both-none None b is = (refl, is)
option-both-none (Some x) b is = cc

pub find-both-none : {X : Type 0} (p : X → Bool) (xs ys : List X) → find p (xs ++ ys) ≡ None → (find p xs ≡ None) × (find p ys ≡ None)
find-both-none p xs ys is = option-both-none (find p xs) (find p ys) (sym (find-append p xs ys) ∙ is)

pub contains-later : {A : Type 0} (x y : A) (xs : List A) → Contains xs y → Contains (x ∷ xs) y
contains-later x y xs c = Contains-append_right (x ∷ []) xs y c

-- equal lists in two parts, the first ones as long as each other
pub same-parts : {X : Type 0} (us vs xs ys : List X) → length us ≡ length xs → us ++ vs ≡ xs ++ ys → (us ≡ xs) × (vs ≡ ys)
same-parts [] vs [] ys len same = (refl, same)
same-parts [] vs (x ∷ xs) ys len same = cc
same-parts (u ∷ us) vs [] ys len same = cc
same-parts (u ∷ us) vs (x ∷ xs) ys len same =
    let rest = same-parts us vs xs ys (omega arith) cc in (cc, rest.1)

-- two maps that are equal agree at each place
pub maps-at : {X Y : Type 0} (f : X → Bool) (g : Y → Bool) (xs : List X) (ys : List Y) (k : ℕ) (d : X) (e : Y) → map f xs ≡ map g ys → k < length xs
    → k < length ys → f (get_or xs k d) ≡ g (get_or ys k e)
maps-at f g xs ys k d e same x y =
    sym (get_or-map f xs k d false x) ∙ ap (λ l. get_or l k false) same ∙ get_or-map g ys k e false y

pub contains-flat_map : {A B : Type 0} (f : A → List B) (xs : List A) (x : A) (y : B) → Contains xs x → Contains (f x) y → Contains (flat_map f xs) y
contains-flat_map f [] x y c d = absurd (omega (arith, c.1))
contains-flat_map f (z ∷ zs) x y c d = go c.0 c.1 c.2 (λ e. contains-flat_map f zs x y e d)
  where
    go : (k : ℕ) → k < suc (length zs) → get_or (z ∷ zs) k x ≡ x → (Contains zs x → Contains (flat_map f zs) y) → Contains (f z ++ flat_map f zs) y
    go zero l e r = Contains-append_left (f z) (flat_map f zs) y (subst (λ w. Contains (f w) y) (sym e) d)
    go (suc k) l e r = Contains-append_right (f z) (flat_map f zs) y (r (k, omega arith, e))

-- membership in lists that are made of others
pub contains-map : {X Y : Type 0} (f : X → Y) (xs : List X) (x : X) → Contains xs x → Contains (map f xs) (f x)
contains-map f xs x h = (h.0, omega (arith, h.1, length-map xs f), get_or-map f xs h.0 x (f x) h.1 ∙ ap f h.2)

-- what was appended behind a place, once the place is written
pub map-set-append : {A B : Type 0} (f : A → B) (old end : List A) (x y : A) (rest : List B)
    → map f end ≡ map f (old ++ x ∷ []) ++ rest
    → map f (set end (length old) y) ≡ map f old ++ f y ∷ rest
map-set-append f old end x y rest e =
    map-set f end (length old) y
    ∙ ap (λ l. set l (length old) (f y))
    (e ∙ ap (λ l. l ++ rest) (map-append f old (x ∷ [])) ∙ append_assoc (map f old) (f x ∷ []) rest)
    ∙ ap (λ n. set (map f old ++ f x ∷ rest) n (f y)) (sym (length-map old f))
    ∙ set-append_seam (map f old) (f x) rest (f y)

pub count_by-cons : {X : Type 0} (p : X → Bool) (x : X) (xs : List X) → count_by p (x ∷ xs) ≡ cond (p x) 1 0 + count_by p xs
count_by-cons p x xs = sum_by-cons (λ y. cond (p y) 1 0) x xs

pub count_by-no : {X : Type 0} (p : X → Bool) (x : X) (xs : List X) → p x ≡ false → count_by p (x ∷ xs) ≡ count_by p xs
count_by-no p x xs fails = count_by-cons p x xs ∙ ap (λ b. cond b 1 0 + count_by p xs) fails ∙ zero-add (count_by p xs)

abbrev pub Every : {X : Type 0} → (X → Type 0) → List X → Type 0
Every P [] = Unit {0}
Every P (x ∷ xs) = P x × Every P xs

pub every-append : {X : Type 0} (P : X → Type 0) (xs ys : List X) → Every P xs → Every P ys → Every P (xs ++ ys)
every-append P [] ys each others = others
every-append P (x ∷ xs) ys each others = (each.0, every-append P xs ys each.1 others)

pub sum-flat_map : {X Y : Type 0} (f : Y → ℕ) (g : X → List Y) (xs : List X) → sum_by f (flat_map g xs) ≡ sum_by (λ x. sum_by f (g x)) xs
sum-flat_map f g [] = refl
sum-flat_map f g (x ∷ xs) =
    sum_by-append f (g x) (flat_map g xs) ∙ ap (λ n. sum_by f (g x) + n) (sum-flat_map f g xs) ∙ sym (sum_by-cons (λ y. sum_by f (g y)) x xs)

pub filter-none : {X : Type 0} (p : X → Bool) (xs : List X) → All (λ x. p x ≡ false) xs → filter p xs ≡ []
filter-none p [] h = refl
filter-none p (x ∷ xs) h =
    let e : p x ≡ false = All-head (λ x. p x ≡ false) x xs h in
    rw e (filter-none p xs (All-tail (λ x. p x ≡ false) x xs h))

pub count_by-yes : {X : Type 0} (p : X → Bool) (x : X) (xs : List X) → p x ≡ true → count_by p (x ∷ xs) ≡ 1 + count_by p xs
count_by-yes p x xs passes = count_by-cons p x xs ∙ ap (λ b. cond b 1 0 + count_by p xs) passes

pub short-decimal : (n : ℕ) → n < 2 ^ 32 → length (decimal n) ≤ 10
short-decimal n low = length-decimal-le 10 n (omega arith) (omega arith) (omega arith)

pub all-of-every : {X : Type 0} (P : X → Type 0) (xs : List X) → Every P xs → All P xs
all-of-every P [] each = All-nil P
all-of-every P (x ∷ xs) each = All-cons P x xs each.0 (all-of-every P xs each.1)

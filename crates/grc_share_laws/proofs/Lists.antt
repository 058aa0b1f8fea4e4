-- What stands in a list, and in what a filter lets through of it.
use Rattle.std.proofs.Common.{◌≡◌, ℕ, zero, suc, ◌<◌, Bool, true, false, ◌||◌, cond, List, [], ◌∷◌, ◌++◌, length, map, get_or, refl, sym, ap, ◌∙◌, subst}
use Rattle.std.proofs.Common.{⊎_elim, arith}
use Rattle.std.specs.Prelude.{Contains, filter}
use Rattle.std.specs.List.{list_any}
use Rattle.std.proofs.lemmas.Bool.{false≢true, or_cases, or_left, or_right}
use Rattle.std.proofs.Math.Path.{fun_ext}
use Rattle.std.proofs.lemmas.List.Elements.{Contains-append_right}
use Rattle.base_facts.proofs.Lists.{contains-map}
use Rattle.base_types.specs.Codes.{upto}
use Rattle.grc_graph.specs.Wires.{listed}
use Rattle.grc_solutions.proofs.Exports.{every_at, every_contained, every_listed, every_mapped}

-- what stands in a list is the head or stands behind it
pub head-or-later : {X : Type 0} (P : X → Type 0) (x : X) (xs : List X) (y : X) → Contains (x ∷ xs) y → P x → (Contains xs y → P y) → P y
head-or-later P x xs y c here later = by c.0 c.1 c.2
  where
    by : (i : ℕ) → i < length (x ∷ xs) → get_or (x ∷ xs) i y ≡ y → P y
    by zero l e = subst P e here
    by (suc i) l e = later (i, omega (arith, l), e)

pub any-from : {X : Type 0} (f : X → Bool) (xs : List X) (x : X) → Contains xs x → f x ≡ true → list_any f xs ≡ true
any-from f [] x c e = absurd (omega (arith, c.1))
any-from f (y ∷ ys) x c e = by c.0 c.1 c.2 (λ d. any-from f ys x d e)
  where
    by : (i : ℕ) → i < length (y ∷ ys) → get_or (y ∷ ys) i x ≡ x → (Contains ys x → list_any f ys ≡ true) → list_any f (y ∷ ys) ≡ true
    by zero l z rest = or_left (f y) (list_any f ys) (subst (λ u. f u ≡ true) (sym z) e)
    by (suc i) l z rest = or_right (f y) (list_any f ys) (rest (i, omega (arith, l), z))

pub any-some : {X : Type 0} (f : X → Bool) (xs : List X) → list_any f xs ≡ true → (x : X) × (Contains xs x) × (f x ≡ true)
any-some f [] h = absurd (false≢true h)
any-some f (y ∷ ys) h =
    ⊎_elim (λ e. (y, (0, omega arith, refl), e))
    (λ e. let r = any-some f ys e in (r.0, Contains-append_right (y ∷ []) ys r.0 r.1, r.2)) (or_cases (f y) (list_any f ys) h)

pub filter-has : {X : Type 0} (f : X → Bool) (xs : List X) (x : X) → Contains xs x → f x ≡ true → Contains (filter f xs) x
filter-has f [] x c e = absurd (omega (arith, c.1))
filter-has f (y ∷ ys) x c e = by c.0 c.1 c.2 (λ d. filter-has f ys x d e)
  where
    tail : (b : Bool) → Contains (filter f ys) x → Contains (cond b (y ∷ filter f ys) (filter f ys)) x
    tail true d = Contains-append_right (y ∷ []) (filter f ys) x d
    tail false d = d

    by : (i : ℕ) → i < length (y ∷ ys) → get_or (y ∷ ys) i x ≡ x → (Contains ys x → Contains (filter f ys) x)
        → Contains (cond (f y) (y ∷ filter f ys) (filter f ys)) x
    by zero l q rest = subst (λ b. Contains (cond b (y ∷ filter f ys) (filter f ys)) x) (sym (ap f q ∙ e)) (0, omega arith, q)
    by (suc i) l q rest = tail (f y) (rest (i, omega (arith, l), q))

pub filter-some : {X : Type 0} (f : X → Bool) (xs : List X) (x : X) → Contains (filter f xs) x → Contains xs x × (f x ≡ true)
filter-some f [] x c = absurd (omega (arith, c.1))
filter-some f (y ∷ ys) x c = by (f y) refl c (λ d. filter-some f ys x d)
  where
    later : (Contains ys x × (f x ≡ true)) → Contains (y ∷ ys) x × (f x ≡ true)
    later r = (Contains-append_right (y ∷ []) ys x r.0, r.1)

    by : (b : Bool) → f y ≡ b → Contains (cond b (y ∷ filter f ys) (filter f ys)) x → (Contains (filter f ys) x → Contains ys x × (f x ≡ true))
        → Contains (y ∷ ys) x × (f x ≡ true)
    by true e d rest = head-or-later (λ z. Contains (y ∷ ys) z × (f z ≡ true)) y (filter f ys) x d ((0, omega arith, refl), e) (λ k. later (rest k))
    by false e d rest = later (rest d)

-- ---- the or over two lists

pub any-append : {X : Type 0} (f : X → Bool) (xs ys : List X) → list_any f (xs ++ ys) ≡ (list_any f xs || list_any f ys)
any-append f [] ys = refl
any-append f (x ∷ xs) ys = by (f x) (any-append f xs ys)
  where
    by : (b : Bool) → list_any f (xs ++ ys) ≡ (list_any f xs || list_any f ys) → (b || list_any f (xs ++ ys)) ≡ ((b || list_any f xs) || list_any f ys)
    by true e = refl
    by false e = e

-- ---- lists that are made of others

-- what holds of each element's value holds of what stands among the values
pub of-mapped : {X Y : Type 0} (P : Y → Type 0) (f : X → Y) (xs : List X) → ((x : X) → Contains xs x → P (f x)) → (y : Y) → Contains (map f xs) y → P y
of-mapped P f xs h y c = every_at P (map f xs) (every_mapped P f xs (every_contained (λ x. P (f x)) xs h)) y c

-- what is made of a code of a set stands among what is made of all of them
pub listed-in : {X : Type 0} (f : ℕ → X) (A : ℕ → Bool) (k : ℕ) → k < 64 → A k ≡ true → Contains (map f (listed A)) (f k)
listed-in f A k b e =
    contains-map f (listed A) k
    (every_listed (λ j. Contains (listed A) j) A (every_contained (λ j. Contains (listed A) j) (listed A) (λ j c. c)) k b e)

-- two sets with the same codes
pub upto-same : (A B : ℕ → Bool) → ((j : ℕ) → A j ≡ B j) → (k : ℕ) → upto A k ≡ upto B k
upto-same A B h k = ap (λ C. upto C k) (fun_ext h)

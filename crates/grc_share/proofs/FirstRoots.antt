-- The first of the roots with a key: it is none but a root itself, where no root before it has the key.
use Rattle.std.proofs.Common.{◌≡◌, ℕ, ◌<◌, ◌≤◌, ◌==◌, Bool, true, false, cond, List, [], ◌∷◌, refl, sym, ap, ◌∙◌, subst, ⊎_elim, arith}
use Rattle.std.specs.Prelude.{All}
use Rattle.std.specs.List.{list_any}
use Rattle.std.proofs.lemmas.Bool.{eq-eqb, eqb-true, false≢true, or_cases, or_left, or_right, both_ways}
use Rattle.std.proofs.lemmas.List.Elements.{All-head, All-tail}
use Rattle.grc_share.specs.SharedWires.{first_root}
use Rattle.grc_share.proofs.RootKeys.{KeysRise}

abbrev pub Among : ℕ → List ℕ → Type 0
Among r rs = list_any (λ s. s == r) rs ≡ true

-- each root is less than those behind it
abbrev pub Rises : List ℕ → Type 0
Rises [] = Unit {0}
Rises (x ∷ xs) = All (λ y. x < y) xs × Rises xs

pub among_all : (P : ℕ → Type 0) (r : ℕ) (rs : List ℕ) → All P rs → Among r rs → P r
among_all P r [] a h = absurd (false≢true h)
among_all P r (s ∷ ss) a h =
    ⊎_elim (λ e. subst P (eqb-true s r e) (All-head P s ss a))
    (λ e. among_all P r ss (All-tail P s ss a) e)
    (or_cases (s == r) (list_any (λ x. x == r) ss) h)

-- the first root with a key is among the roots, if the root is
pub first_among : (c : ℕ → ℕ) (rs : List ℕ) (r : ℕ) → Among r rs → Among (first_root c rs r) rs
first_among c [] r h = h
first_among c (s ∷ ss) r h = by (c s == c r) refl (λ g. first_among c ss r g)
  where
    by : (b : Bool) → (c s == c r) ≡ b → (Among r ss → Among (first_root c ss r) ss) → Among (cond b s (first_root c ss r)) (s ∷ ss)
    by true e rest = or_left (s == s) (list_any (λ x. x == s) ss) (eq-eqb s s refl)
    by false e rest = or_right (s == first_root c ss r) (list_any (λ x. x == first_root c ss r) ss)
        (⊎_elim (λ g. absurd (both_ways (c s == c r) e (eq-eqb (c s) (c r) (ap c (eqb-true s r g))))) rest
        (or_cases (s == r) (list_any (λ x. x == r) ss) h))

-- and no greater than it
pub first_least : (c : ℕ → ℕ) (rs : List ℕ) (r : ℕ) → Rises rs → Among r rs → first_root c rs r ≤ r
first_least c [] r up h = absurd (false≢true h)
first_least c (s ∷ ss) r up h = by (c s == c r) refl (λ g. first_least c ss r up.1 g)
  where
    by : (b : Bool) → (c s == c r) ≡ b → (Among r ss → first_root c ss r ≤ r) → cond b s (first_root c ss r) ≤ r
    by true e rest =
        ⊎_elim (λ g. omega (arith, eqb-true s r g)) (λ g. omega (arith, among_all (λ y. s < y) r ss up.0 g))
        (or_cases (s == r) (list_any (λ x. x == r) ss) h)
    by false e rest =
        ⊎_elim (λ g. absurd (both_ways (c s == c r) e (eq-eqb (c s) (c r) (ap c (eqb-true s r g))))) rest
        (or_cases (s == r) (list_any (λ x. x == r) ss) h)

-- keys rise with roots
pub keys_from : (c : ℕ → ℕ) (b k : ℕ) (rs : List ℕ) (q : ℕ) → KeysRise c b k rs → Among q rs → b ≤ c q
keys_from c b k [] q h g = absurd (false≢true g)
keys_from c b k (s ∷ ss) q h g =
    ⊎_elim (λ e. omega (arith, h.0, ap c (eqb-true s q e))) (λ e. omega (arith, h.0, keys_from c (c s) k ss q h.2 e))
    (or_cases (s == q) (list_any (λ x. x == q) ss) g)

pub keys_up : (c : ℕ → ℕ) (b k : ℕ) (rs : List ℕ) (s q : ℕ) → KeysRise c b k rs → Rises rs → Among s rs → Among q rs → s ≤ q → c s ≤ c q
keys_up c b k [] s q h up i j l = absurd (false≢true i)
keys_up c b k (x ∷ xs) s q h up i j l =
    ⊎_elim
    (λ e. ⊎_elim (λ f. omega (arith, ap c (sym (eqb-true x s e) ∙ eqb-true x q f)))
    (λ f. omega (arith, ap c (eqb-true x s e), keys_from c (c x) k xs q h.2 f)) (or_cases (x == q) (list_any (λ y. y == q) xs) j))
    (λ e. ⊎_elim (λ f. absurd (omega (arith, eqb-true x q f, l, among_all (λ y. x < y) s xs up.0 e)))
    (λ f. keys_up c (c x) k xs s q h.2 up.1 e f l) (or_cases (x == q) (list_any (λ y. y == q) xs) j))
    (or_cases (x == s) (list_any (λ y. y == s) xs) i)

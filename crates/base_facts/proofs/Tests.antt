-- Facts on Booleans and on comparisons.
use Rattle.std.proofs.Common.{Bool, ap, arith, false, ltb, not, refl, sym, true, ℕ, ⊎_elim, ◌&&◌, ◌==◌, ◌||◌, ◌∙◌, ◌≡◌, ◌≤◌}
use Rattle.std.proofs.lemmas.Bool.{cases_Bool, cond_both, eq-eqb, eqb-false, eqb-true, false≢true, ltb-true, ne_eqb}
use Rattle.std.specs.Prelude.{if◌then◌else◌}

pub or-false : (a : Bool) → (a || false) ≡ a
or-false true = refl
or-false false = refl

pub or-equal : {a b c d : Bool} → a ≡ c → b ≡ d → (a || b) ≡ (c || d)
or-equal {a} {b} {c} {d} e f = ap (λ x. x || b) e ∙ ap (λ x. c || x) f

pub ltb-not : (a b : ℕ) → b ≤ a → ltb a b ≡ false
ltb-not a b h = cond_both (ltb a b) true false (λ x. ltb a b ≡ false) (λ e. let i = ltb-true a b e in absurd (omega arith)) (λ e. e)

pub and-false : (b : Bool) → (b && false) ≡ false
and-false true = refl
and-false false = refl

pub and-true : (a : Bool) → (a && true) ≡ a
and-true true = refl
and-true false = refl

pub or-nothing : (a b : Bool) → b ≡ false → (a || b) ≡ a
or-nothing true b e = refl
or-nothing false b e = e

pub or-swapped : (a b c : Bool) → (a || (b || c)) ≡ (b || (a || c))
or-swapped true true c = refl
or-swapped true false c = refl
or-swapped false b c = refl

pub if-false : {A : Type 0} (b : Bool) (x y : A) → b ≡ false → (if b then x else y) ≡ y
if-false true x y h = absurd (false≢true (sym h))
if-false false x y h = refl

pub if-true : {A : Type 0} (b : Bool) (x y : A) → b ≡ true → (if b then x else y) ≡ x
if-true true x y h = refl
if-true false x y h = absurd (false≢true h)

pub not-false : (d : Bool) → not d ≡ true → d ≡ false
not-false true e = absurd (false≢true e)
not-false false e = refl

pub or-false-back : (a : Bool) → a ≡ (a || false)
or-false-back true = refl
or-false-back false = refl

pub and-turned : (a b : Bool) → (a && b) ≡ (b && a)
and-turned true true = refl
and-turned true false = refl
and-turned false true = refl
and-turned false false = refl

-- Booleans
pub or-turned : (a b : Bool) → (a || b) ≡ (b || a)
or-turned true true = refl
or-turned true false = refl
or-turned false true = refl
or-turned false false = refl

pub or-left-none : (a b : Bool) → (a || b) ≡ false → a ≡ false
or-left-none true b e = e
or-left-none false b e = refl

pub same-tests : (x y : Bool) → (x ≡ true → y ≡ true) → (y ≡ true → x ≡ true) → x ≡ y
same-tests true y f g = sym (f refl)
same-tests false true f g = g refl
same-tests false false f g = refl

pub or-other : (a b : Bool) → a ≡ false → (a || b) ≡ true → b ≡ true
or-other true b e h = absurd (false≢true (sym e))
or-other false b e h = h

pub and-true-at : (x y : Bool) → y ≡ true → x ≡ (x && y)
and-true-at true y e = sym e
and-true-at false y e = refl

pub eqb-turned : (a b : ℕ) → (a == b) ≡ (b == a)
eqb-turned a b =
    ⊎_elim (λ e. e ∙ sym (eq-eqb b a (sym (eqb-true a b e)))) (λ e. e ∙ sym (ne_eqb b a (λ z. eqb-false a b e (sym z)))) (cases_Bool (a == b))

-- Booleans
pub and-moved : (c a b : Bool) → ((c && a) && b) ≡ (c && (b && a))
and-moved true true true = refl
and-moved true true false = refl
and-moved true false true = refl
and-moved true false false = refl
and-moved false a b = refl

pub or-grouped : (a b c : Bool) → ((a || b) || c) ≡ (a || (b || c))
or-grouped true b c = refl
or-grouped false b c = refl

pub or-both-none : {a b : Bool} → a ≡ false → b ≡ false → (a || b) ≡ false
or-both-none {a} {b} e f = ap (λ x. x || b) e ∙ f

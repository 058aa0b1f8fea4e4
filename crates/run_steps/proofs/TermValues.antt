-- What terms, gates and small tables give.
use Rattle.std.proofs.Common.{◌≡◌, ℕ, ◌+◌, ◌*◌, ◌/◌, ◌%◌, ◌^◌, ◌<◌, ◌==◌, suc, Bool, true, false, List, [], ◌∷◌, length, map, get_or, drop}
use Rattle.std.proofs.Common.{refl, ap, ◌∙◌, arith}
use Rattle.std.specs.Prelude.{if◌then◌else◌}
use Rattle.std.proofs.Math.Nat.{pow-succ'}
use Rattle.std.proofs.Math.Seq.{drop-cons}
use Rattle.run_steps.specs.declared.term.Term.{Term}
use Rattle.run_steps.specs.declared.gate.Gate.{Gate}
use Rattle.run_steps.specs.Slots.{value_at}
use Rattle.run_steps.specs.Plans.{number_of, digits, looked_up, chosen, term_value}
use Rattle.run_steps.specs.Records.{term_truth, digit_at, gate_value}

-- ---- the digits of a number

pub number-below : (vs : List Bool) → number_of vs < 2 ^ length vs
number-below [] = omega arith
number-below (true ∷ vs) = omega (arith, number-below vs, pow-succ' 2 (length vs))
number-below (false ∷ vs) = omega (arith, number-below vs, pow-succ' 2 (length vs))

odd : (n : ℕ) → ((1 + 2 * n) % 2 == 1) ≡ true
odd n = let e : (1 + 2 * n) % 2 ≡ 1 = omega arith in rw e refl

even : (n : ℕ) → ((0 + 2 * n) % 2 == 1) ≡ false
even n = let e : (0 + 2 * n) % 2 ≡ 0 = omega arith in rw e refl

half-odd : (n : ℕ) → (1 + 2 * n) / 2 ≡ n
half-odd n = omega arith

half-even : (n : ℕ) → (0 + 2 * n) / 2 ≡ n
half-even n = omega arith

pub digits-number : (vs : List Bool) → digits (length vs) (number_of vs) ≡ vs
digits-number [] = refl
digits-number (true ∷ vs) = rw (odd (number_of vs), half-odd (number_of vs), digits-number vs) refl
digits-number (false ∷ vs) = rw (even (number_of vs), half-even (number_of vs), digits-number vs) refl

-- one more digit of the place that is looked up
pub number-more : (values : List Bool) (reads : List ℕ) (i w p : ℕ) → i < length reads
    → p + w * number_of (map (value_at values) (drop i reads))
    ≡ p + (if value_at values (get_or reads i 0) then w else 0) + w * 2 * number_of (map (value_at values) (drop (i + 1) reads))
number-more values reads i w p low =
    let s : i + 1 ≡ suc i = omega arith in
    let n = number_of (map (value_at values) (drop (suc i) reads)) in
    rw (drop-cons reads i 0 low, s) (elim (value_at values (get_or reads i 0)) as (λ b. p + w * ((if b then 1 else 0) + 2 * n) ≡ p +
    (if b then w else 0) + w * 2 * n)
    [ true ↦ omega arith | false ↦ omega arith ])

-- ---- gates

-- one of the four lowest digits
low-digit : (n : ℕ) (l r : Bool) → digit_at n (number_of (l ∷ r ∷ [])) ≡ value_at (digits 4 n) (number_of (l ∷ r ∷ []))
low-digit n false false = let e : n / 1 ≡ n = omega arith in rw e refl
low-digit n true false = refl
low-digit n false true = let e : n / 4 ≡ n / 2 / 2 = omega arith in rw e refl
low-digit n true true = let e : n / 8 ≡ n / 2 / 2 / 2 = omega arith in rw e refl

pub gate-digits : (g : Gate) (values : List Bool) → gate_value g values ≡ looked_up (g.left ∷ g.right ∷ []) (digits 4 g.truth) values
gate-digits g values = low-digit g.truth (value_at values g.left) (value_at values g.right)

term-looked : (t : Term) (l r : Bool) → value_at (term_truth t) (number_of (l ∷ r ∷ [])) ≡ chosen t l r
term-looked t false false = refl
term-looked t true false = refl
term-looked t false true = refl
term-looked t true true = refl

-- a gate gives what its term gives
pub gate-term : (g : Gate) (t : Term) → g.left ≡ t.left → g.right ≡ t.right → g.truth ≡ number_of (term_truth t) → (values : List Bool)
    → looked_up (g.left ∷ g.right ∷ []) (digits 4 g.truth) values ≡ term_value t values
gate-term g t left right truth values =
    ap (λ k. looked_up (k ∷ g.right ∷ []) (digits 4 g.truth) values) left ∙ ap (λ k. looked_up (t.left ∷ k ∷ []) (digits 4 g.truth) values) right
    ∙ ap (λ n. looked_up (t.left ∷ t.right ∷ []) (digits 4 n) values) truth
    ∙ ap (λ ds. looked_up (t.left ∷ t.right ∷ []) ds values) (digits-number (term_truth t))
    ∙ term-looked t (value_at values t.left) (value_at values t.right)

-- ---- small tables

pub one-entry : (truth : List Bool) (v : Bool) → (if v then value_at truth 0 else value_at truth 0) ≡ value_at truth 0
one-entry truth true = refl
one-entry truth false = refl

pub two-entries : (truth : List Bool) (v : Bool) → (if v then value_at truth 1 else value_at truth 0) ≡ value_at truth (number_of (v ∷ []))
two-entries truth true = refl
two-entries truth false = refl

pub four-entries : (t : Term) (truth : List Bool) → t.neither ≡ value_at truth 0 → t.first ≡ value_at truth 1 → t.second ≡ value_at truth 2
    → t.both ≡ value_at truth 3 → (l r : Bool) → chosen t l r ≡ value_at truth (number_of (l ∷ r ∷ []))
four-entries t truth a b c d false false = a
four-entries t truth a b c d true false = b
four-entries t truth a b c d false true = c
four-entries t truth a b c d true true = d

-- ---- lists of few slots

pub none-of : (xs : List ℕ) → length xs < 1 → xs ≡ []
none-of [] few = refl
none-of (x ∷ xs) few = absurd (omega arith)

pub one-of : (xs : List ℕ) (x : ℕ) → 0 < length xs → length xs < 2 → get_or xs 0 0 ≡ x → xs ≡ x ∷ []
one-of [] x some few is = absurd (omega arith)
one-of (y ∷ []) x some few is = ap (λ z. z ∷ []) is
one-of (y ∷ z ∷ xs) x some few is = absurd (omega arith)

pub two-of : (xs : List ℕ) (x y : ℕ) → 1 < length xs → length xs < 3 → get_or xs 0 0 ≡ x → get_or xs 1 0 ≡ y → xs ≡ x ∷ y ∷ []
two-of [] x y some few is same = absurd (omega arith)
two-of (v ∷ []) x y some few is same = absurd (omega arith)
two-of (v ∷ w ∷ []) x y some few is same = ap (λ z. z ∷ w ∷ []) is ∙ ap (λ z. x ∷ z ∷ []) same
two-of (v ∷ w ∷ z ∷ xs) x y some few is same = absurd (omega arith)

-- ---- a single slot

pub one-slot : (t : Term) (v : Bool) → chosen t v v ≡ (if v then t.both else t.neither)
one-slot t true = refl
one-slot t false = refl

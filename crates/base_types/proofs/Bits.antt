-- Numbers of 64 bits as sets: a number has what its 1 bits number.
use Rattle.std.proofs.Common.{◌≡◌, ℕ, zero, suc, ◌-◌, ◌*◌, ◌/◌, ◌%◌, ◌^◌, ◌<◌, ◌≤◌, min, max, Bool, true, false, ◌==◌, ◌&&◌, ◌||◌, refl, sym, ap, ◌∙◌, arith}
use Rattle.std.proofs.Common.{lit<}
use Rattle.std.proofs.lemmas.Bool.Decides.{eqb_tells, leb_tells}
use Rattle.std.proofs.lemmas.Nat.{one_shl, shr-shr}
use Rattle.std.proofs.Common.{◌⊎◌, inl, inr}
use Rattle.std.proofs.Math.Bool.{and-true, and-false, or-true, or-false}
use Rattle.base_types.specs.CodeSet.{bit}
use Rattle.base_types.specs.Codes.{only, except, upto, maxima, lowered}
use Rattle.std.specs.Int.{bit_at, trailing_zeros, w64}
use Rattle.std.specs.Prelude.{bit_and, bit_or}
use Rattle.std.proofs.lemmas.Nat.Bits.{bit_at-lt, bit_at_and, bit_at_or, bit_at-zero, bit_at-suc, bit_at_above, bit_at-pow_same, bit_at-pow_other}
use Rattle.std.proofs.lemmas.Nat.Bits.{bit_at_mask_inside, bit_at_mask_below, shr_and_one, bit_at_clear_same, bit_at_clear_other, bit_at-trailing_zeros}
use Rattle.std.proofs.lemmas.Nat.Bits.{ones_shl}

pub max_is_one : (x y : ℕ) → x < 2 → y < 2 → (max x y == 1) ≡ ((x == 1) || (y == 1))
max_is_one zero zero p q = refl
max_is_one zero (suc zero) p q = refl
max_is_one (suc zero) zero p q = refl
max_is_one (suc zero) (suc zero) p q = refl
max_is_one zero (suc (suc y)) p q = absurd (omega arith)
max_is_one (suc zero) (suc (suc y)) p q = absurd (omega arith)
max_is_one (suc (suc x)) y p q = absurd (omega arith)

pub min_is_one : (x y : ℕ) → x < 2 → y < 2 → (min x y == 1) ≡ ((x == 1) && (y == 1))
min_is_one zero zero p q = refl
min_is_one zero (suc zero) p q = refl
min_is_one (suc zero) zero p q = refl
min_is_one (suc zero) (suc zero) p q = refl
min_is_one zero (suc (suc y)) p q = absurd (omega arith)
min_is_one (suc zero) (suc (suc y)) p q = absurd (omega arith)
min_is_one (suc (suc x)) y p q = absurd (omega arith)

le_or_lt : (a b : ℕ) → (a ≤ b) ⊎ (b < a)
le_or_lt a b = elim (leb_tells a b) [ inl w ↦ inl w.1 | inr w ↦ inr w.1 ]

-- an operation on equal parts
both : (op : Bool → Bool → Bool) → {p q r s : Bool} → p ≡ q → r ≡ s → op p r ≡ op q s
both op e f = λ i. op (e i) (f i)

pub bit-or : (a b k : ℕ) → bit (bit_or a b) k ≡ (bit a k || bit b k)
bit-or a b k = ap (λ n. n == 1) (bit_at_or a b k) ∙ max_is_one (bit_at a k) (bit_at b k) (bit_at-lt a k) (bit_at-lt b k)

pub bit-and : (a b k : ℕ) → bit (bit_and a b) k ≡ (bit a k && bit b k)
bit-and a b k = ap (λ n. n == 1) (bit_at_and a b k) ∙ min_is_one (bit_at a k) (bit_at b k) (bit_at-lt a k) (bit_at-lt b k)

pub bit-half : (n k : ℕ) → bit (n / 2) k ≡ bit n (suc k)
bit-half n k = ap (λ m. m == 1) (sym (bit_at-suc n k))

pub bit-quarter : (n k : ℕ) → bit (n / 4) k ≡ bit n (suc (suc k))
bit-quarter n k = ap (λ m. bit m k) (sym (shr-shr n 1 1)) ∙ bit-half (n / 2) k ∙ bit-half n (suc k)

pub bit-zero : (k : ℕ) → bit 0 k ≡ false
bit-zero k = ap (λ m. m == 1) (bit_at-zero k)

pub bit-above : (n k : ℕ) → n < 2 ^ 64 → 64 ≤ k → bit n k ≡ false
bit-above n k fits above = ap (λ m. m == 1) (bit_at_above n 64 k fits above)

pub bit-and-above : (n m k : ℕ) → n < 2 ^ 64 → 64 ≤ k → bit (bit_and n m) k ≡ false
bit-and-above n m k fits above = bit-and n m k ∙ ap (λ b. b && bit m k) (bit-above n k fits above)

-- ---- one code

-- `1 << k`
pub bit-one_shl : (c : ℕ) → c < 64 → (k : ℕ) → bit (1 * 2 ^ c % 2 ^ 64) k ≡ only c k
bit-one_shl c below k =
    elim (eqb_tells k c) [
      | inl w ↦ rw (one_shl c 64 below) (rw (w.0, w.1) (ap (λ m. m == 1) (bit_at-pow_same c)))
      | inr w ↦ rw (one_shl c 64 below) (rw w.0 (ap (λ m. m == 1) (bit_at-pow_other c k w.1)))
    ]

-- `n & !(1 << c)`
pub bit-clear : (n c : ℕ) → n < 2 ^ 64 → c < 64 → (k : ℕ) → bit (bit_and n (2 ^ 64 - 1 - 1 * 2 ^ c % 2 ^ 64)) k ≡ except c (bit n) k
bit-clear n c fits below k =
    elim (eqb_tells k c) [
      | inl w ↦ rw (w.0, w.1) (ap (λ m. m == 1) (bit_at_clear_same w64 n c below) ∙ sym (and-false (bit n c)))
      | inr w ↦ rw w.0 (elim (le_or_lt 64 k) [
        | inl above ↦ bit-and-above n _ k fits above ∙ sym (ap (λ b. b && true) (bit-above n k fits above))
        | inr within ↦ ap (λ m. m == 1) (bit_at_clear_other w64 n c below k within w.1) ∙ sym (and-true (bit n k))
      ])
    ]

-- a code past the last one is in no set
pub except-above : (n c : ℕ) → n < 2 ^ 64 → 64 ≤ c → (k : ℕ) → bit n k ≡ except c (bit n) k
except-above n c fits above k =
    elim (eqb_tells k c) [
      | inl w ↦ (let past : 64 ≤ k = omega (arith, w.1) in rw (bit-above n k fits past) refl)
      | inr w ↦ rw w.0 (sym (and-true (bit n k)))
    ]

-- `(n >> k) & 1 == 1`
pub bit-tested : (n k : ℕ) → (bit_and (n / 2 ^ k) 1 == 1) ≡ bit n k
bit-tested n k = ap (λ m. m == 1) (shr_and_one n k)

-- ---- maxima of pairs

pub upto-nothing : (k : ℕ) → upto (bit 0) k ≡ false
upto-nothing zero = refl
upto-nothing (suc k) = rw (upto-nothing k) (bit-zero (suc k))

-- below the least code nothing, from it on everything
pub upto-below_least : (A : ℕ → Bool) (t : ℕ) → ((i : ℕ) → i < t → A i ≡ false) → (k : ℕ) → k < t → upto A k ≡ false
upto-below_least A t none zero below = none 0 below
upto-below_least A t none (suc k) below = let before : upto A k ≡ false = upto-below_least A t none k (omega arith) in rw before (none (suc k) below)

pub upto-from : (A : ℕ → Bool) (t : ℕ) → A t ≡ true → (k : ℕ) → t ≤ k → upto A k ≡ true
upto-from A t there zero from = let first : t ≡ 0 = omega arith in rw first at there
upto-from A t there (suc k) from =
    elim (le_or_lt t k) [
      | inl before ↦ (let found : upto A k ≡ true = upto-from A t there k before in rw found refl)
      | inr after ↦ (let here : t ≡ suc k = omega arith in let found : A (suc k) ≡ true = rw here at there in rw found (or-true (upto A k)))
    ]

-- the codes that are not less than the least code of the set: `MAX << n.trailing_zeros()`
pub bit-from_least : (n : ℕ) → 0 < n → n < 2 ^ 64 → (k : ℕ) → k < 64 → bit ((2 ^ 64 - 1) * 2 ^ trailing_zeros w64 n % 2 ^ 64) k ≡ upto (bit n) k
bit-from_least n some fits k below =
    let least = bit_at-trailing_zeros w64 n some fits in
    let none : (i : ℕ) → i < trailing_zeros w64 n → bit n i ≡ false = λ i before. ap (λ m. m == 1) (least.2 i before) in
    rw (ones_shl 64 (trailing_zeros w64 n) (omega (arith, least.0))) (elim (le_or_lt (trailing_zeros w64 n) k) [
      | inl from ↦ ap (λ m. m == 1) (bit_at_mask_inside (trailing_zeros w64 n) 64 k from below)
          ∙ sym (upto-from (bit n) (trailing_zeros w64 n) (ap (λ m. m == 1) least.1) k from)
      | inr before ↦ ap (λ m. m == 1) (bit_at_mask_below (trailing_zeros w64 n) 64 k before)
          ∙ sym (upto-below_least (bit n) (trailing_zeros w64 n) none k before)
    ])

pub bit-maxima : (a b x y : ℕ) → a < 2 ^ 64 → b < 2 ^ 64 → ((k : ℕ) → k < 64 → bit x k ≡ upto (bit a) k) → ((k : ℕ) → k < 64 → bit y k ≡ upto (bit b) k) →
    (k : ℕ) → bit (bit_or (bit_and a y) (bit_and b x)) k ≡ maxima (bit a) (bit b) k
bit-maxima a b x y fits_a fits_b up_a up_b k =
    bit-or (bit_and a y) (bit_and b x) k ∙ both (λ p q. p || q) (bit-and a y k) (bit-and b x k) ∙ elim (le_or_lt 64 k) [
      | inl above ↦ rw (bit-above a k fits_a above, bit-above b k fits_b above) refl
      | inr within ↦ rw (up_a k within, up_b k within) refl
    ]

-- ---- the trap rule

-- the three parts of the lowered set, bit by bit
bits_lowered : (n : ℕ) → n < 2 ^ 64 → (k : ℕ) → (((bit n k && bit 3 k) || (bit (n / 4) k && bit 1 k)) || (bit (n / 2) k && bit (2 ^ 64 - 2 ^ 2) k)) ≡
    lowered (bit n) k
bits_lowered n fits zero = rw (bit-quarter n 0) (simp (and-true, and-false, or-false))
bits_lowered n fits (suc zero) = simp (and-true, and-false, or-false)
bits_lowered n fits (suc (suc k)) =
    let three : bit 3 (suc (suc k)) ≡ false = ap (λ m. m == 1) (bit_at_above 3 2 (suc (suc k)) (lit< tt) (omega arith)) in
    let one : bit 1 (suc (suc k)) ≡ false = ap (λ m. m == 1) (bit_at_above 1 1 (suc (suc k)) (lit< tt) (omega arith)) in
    rw (three, one, bit-half n (suc (suc k))) (elim (le_or_lt 64 (suc (suc k))) [
      | inl above ↦ (let past : bit n (suc (suc (suc k))) ≡ false = bit-above n (suc (suc (suc k))) fits (omega arith) in rw past (simp (and-false, or-false)))
      | inr within ↦ rw (ap (λ m. m == 1) (bit_at_mask_inside 2 64 (suc (suc k)) (omega arith) within)) (simp (and-true, and-false))
    ])

pub bit-lowered : (n : ℕ) → n < 2 ^ 64 → (k : ℕ) → bit (bit_or (bit_or (bit_and n 3) (bit_and (n / 4) 1)) (bit_and (n / 2) (2 ^ 64 - 2 ^ 2))) k ≡
    lowered (bit n) k
bit-lowered n fits k = bit-or _ _ k ∙ both (λ p q. p || q) (bit-or _ _ k ∙ both (λ p q. p || q) (bit-and n 3 k) (bit-and (n / 4) 1 k))
    (bit-and (n / 2) (2 ^ 64 - 2 ^ 2) k) ∙ bits_lowered n fits k

-- Sums along lists that have each number below a bound.
use Rattle.std.proofs.Common.{◌≡◌, ◌≢◌, ℕ, zero, suc, ◌+◌, ◌-◌, ◌<◌, ◌≤◌, List, [], ◌∷◌, ◌++◌, length, take, drop, get_or}
use Rattle.std.proofs.Common.{refl, sym, ap, ◌∙◌, arith, inl, inr}
use Rattle.std.specs.List.{sum_by}
use Rattle.std.proofs.lemmas.Bool.{cases_eq, cases_lt}
use Rattle.std.proofs.lemmas.List.{length-append, length-drop, length-take-le, take-append-drop, drop_more, get_or-take}
use Rattle.std.proofs.lemmas.List.{get_or_append_left, get_or-append_right, get_or-drop}
use Rattle.std.proofs.lemmas.List.Sums.{sum_by-append, sum_by-cons, sum_by_more}

-- the number stands in the list, at this place
pub record Stands (l : List ℕ) (i : ℕ) : Type 0 where
  pub place : ℕ
  pub low : place < length l
  pub there : get_or l place 0 ≡ i

-- the list without what stands at a place
abbrev without : List ℕ → ℕ → List ℕ
without l p = take p l ++ drop (p + 1) l

length-without : (l : List ℕ) (p : ℕ) → p < length l → length (without l p) + 1 ≡ length l
length-without l p low =
    omega (arith, length-append (take p l) (drop (p + 1) l), length-take-le p l (omega arith), length-drop (p + 1) l, low)

stands-apart : (l : List ℕ) (p i : ℕ) → p < length l → (s : Stands l i) → s.place ≢ p → Stands (without l p) i
stands-apart l p i low s apart =
    let front : length (take p l) ≡ p = length-take-le p l (omega arith) in
    let less = length-without l p low in
    elim (cases_lt s.place p) [
      | inl before ↦
          record {
            place = s.place;
            low = omega (arith, before, less, low);
            there = get_or_append_left (take p l) (drop (p + 1) l) 0 s.place (omega (arith, front, before)) ∙ get_or-take p l s.place 0 before ∙ s.there;
          }
      | inr behind ↦
          let last : p < s.place = omega (arith, behind, apart) in
          let on : p + 1 + (s.place - 1 - p) ≡ s.place = omega (arith, last) in
          record {
            place = s.place - 1;
            low = omega (arith, last, less, s.low);
            there = get_or-append_right (take p l) (drop (p + 1) l) p (s.place - 1) 0 front (omega (arith, last))
                ∙ get_or-drop (p + 1) l (s.place - 1 - p) 0 ∙ ap (λ k. get_or l k 0) on ∙ s.there;
          }
    ]

stands-without : (l : List ℕ) (p i : ℕ) → p < length l → get_or l p 0 ≢ i → Stands l i → Stands (without l p) i
stands-without l p i low other s = stands-apart l p i low s (λ e. other (ap (λ k. get_or l k 0) (sym e) ∙ s.there))

sum-without : (f : ℕ → ℕ) (l : List ℕ) (p : ℕ) → p < length l → sum_by f l ≡ sum_by f (without l p) + f (get_or l p 0)
sum-without f l p low =
    let split : l ≡ take p l ++ get_or l p 0 ∷ drop (p + 1) l =
    sym (take-append-drop p l) ∙ ap (λ m. take p l ++ m) (drop_more l p 0 low) in
    omega (
      arith,
      ap (sum_by f) split,
      sum_by-append f (take p l) (get_or l p 0 ∷ drop (p + 1) l),
      sum_by-append f (take p l) (drop (p + 1) l),
      sum_by-cons f (get_or l p 0) (drop (p + 1) l),
    )

empty-sum : (f : ℕ → ℕ) (l : List ℕ) → length l ≡ 0 → sum_by f l ≡ 0
empty-sum f [] h = refl
empty-sum f (x ∷ l) h = absurd (omega (arith, h))

-- a list that has each number below n is no shorter than n
stands-count : (n : ℕ) (l : List ℕ) → ((i : ℕ) → i < n → Stands l i) → n ≤ length l
stands-count zero l each = omega arith
stands-count (suc n) l each =
    let s = each n (omega arith) in
    let less = length-without l s.place s.low in
    let rest = stands-count n (without l s.place)
    (λ i low. stands-without l s.place i s.low (λ e. omega (arith, sym e ∙ s.there, low)) (each i (omega (arith, low)))) in
    omega (arith, less, rest)

-- so one of n numbers has none twice
pub no-repetition : (n : ℕ) (l : List ℕ) → length l ≡ n → ((i : ℕ) → i < n → Stands l i) → (j k : ℕ) → j < length l → k < length l
    → get_or l j 0 ≡ get_or l k 0 → j ≡ k
no-repetition n l wide each j k lowj lowk same =
    elim (cases_eq j k) [
      | inl e ↦ e
      | inr ne ↦
          let less = length-without l j lowj in
          let still : (i : ℕ) → i < n → Stands (without l j) i = λ i low. elim (cases_eq (each i low).place j) [
            | inl at ↦ stands-apart l j i lowj (record { place = k; low = lowk; there = sym same ∙ ap (λ m. get_or l m 0) (sym at) ∙ (each i low).there })
                (λ e. ne (sym e))
            | inr apart ↦ stands-apart l j i lowj (each i low) apart
          ] in
          absurd (omega (arith, stands-count n (without l j) still, less, wide))
    ]

-- a list of n numbers that has each one below n: what is summed along it is summed along the first n elements
pub order-sum : {X : Type 0} (g : X → ℕ) (xs : List X) (d : X) (n : ℕ) (l : List ℕ) → n ≤ length xs → length l ≡ n → ((i : ℕ) → i < n → Stands l i)
    → sum_by (λ i. g (get_or xs i d)) l ≡ sum_by g (take n xs)
order-sum g xs d zero l fits wide each = empty-sum (λ i. g (get_or xs i d)) l wide
order-sum g xs d (suc n) l fits wide each =
    let s = each n (omega arith) in
    let f : ℕ → ℕ = λ i. g (get_or xs i d) in
    let less = length-without l s.place s.low in
    let rest = order-sum g xs d n (without l s.place) (omega arith) (omega (arith, less, wide))
    (λ i low. stands-without l s.place i s.low (λ e. omega (arith, sym e ∙ s.there, low)) (each i (omega (arith, low)))) in
    let more = sum_by_more g xs n d (omega arith) in
    let on : suc n ≡ n + 1 = omega arith in
    omega (arith, sum-without f l s.place s.low, rest, ap f s.there, more, ap (λ k. sum_by g (take k xs)) on)

-- Sums over the numbers below a bound, and over a list that has each of them once.
use Rattle.std.proofs.Common.{◌≡◌, ℕ, zero, suc, ◌+◌, ◌<◌, ◌≤◌, Bool, ◌==◌, cond, List, [], ◌∷◌, length, take, get_or, refl}
use Rattle.std.proofs.Common.{sym, ap, ◌∙◌, arith, inl, inr}
use Rattle.std.specs.Prelude.{All}
use Rattle.std.specs.List.{sum_by, count_by}
use Rattle.std.proofs.lemmas.Bool.{cases_eq, cases_Bool, eq-eqb, ne_eqb}
use Rattle.std.proofs.lemmas.List.Elements.{All-head, All-tail}
use Rattle.std.proofs.lemmas.List.Sums.{sum_by-cons, sum_by_more}
use Rattle.base_types.specs.declared.indices.WireId.{WireId}
use Rattle.grc_graph.specs.WireOrders.{times}

-- ---- the numbers below a bound

abbrev pub total : (ℕ → ℕ) → ℕ → ℕ
total f zero = 0
total f (suc n) = total f n + f n

total-none : (n : ℕ) → total (λ i. 0) n ≡ 0
total-none zero = refl
total-none (suc n) = omega (arith, total-none n)

total-both : (f g : ℕ → ℕ) (n : ℕ) → total f n + total g n ≡ total (λ i. f i + g i) n
total-both f g zero = refl
total-both f g (suc n) = omega (arith, total-both f g n)

total-same : (f g : ℕ → ℕ) (n : ℕ) → ((i : ℕ) → i < n → f i ≡ g i) → total f n ≡ total g n
total-same f g zero h = refl
total-same f g (suc n) h = omega (arith, total-same f g n (λ i l. h i (omega arith)), h n (omega arith))

total-other : (f : ℕ → ℕ) (v n : ℕ) → n ≤ v → total (λ i. cond (v == i) (f i) 0) n ≡ 0
total-other f v zero h = refl
total-other f v (suc n) h =
    let last : cond (v == n) (f n) 0 ≡ 0 = ap (λ b. cond b (f n) 0) (ne_eqb v n (λ e. omega arith)) in
    omega (arith, total-other f v n (omega arith), last)

total-one : (f : ℕ → ℕ) (v n : ℕ) → v < n → total (λ i. cond (v == i) (f i) 0) n ≡ f v
total-one f v zero h = absurd (omega arith)
total-one f v (suc n) h = elim (cases_eq v n) [
  | inl e ↦
      let last : cond (v == n) (f n) 0 ≡ f n = ap (λ b. cond b (f n) 0) (eq-eqb v n e) in
      omega (arith, total-other f v n (omega (arith, e)), last, ap f e)
  | inr d ↦
      let last : cond (v == n) (f n) 0 ≡ 0 = ap (λ b. cond b (f n) 0) (ne_eqb v n d) in
      omega (arith, total-one f v n (omega (arith, d)), last)
]

pub total-list : {X : Type 0} (f : X → ℕ) (xs : List X) (d : X) (n : ℕ) → n ≤ length xs → total (λ i. f (get_or xs i d)) n ≡ sum_by f (take n xs)
total-list f xs d zero h = refl
total-list f xs d (suc n) h =
    let more : sum_by f (take (n + 1) xs) ≡ sum_by f (take n xs) + f (get_or xs n d) = sum_by_more f xs n d (omega arith) in
    let at : suc n ≡ n + 1 = omega arith in
    omega (arith, total-list f xs d n (omega arith), more, ap (λ k. sum_by f (take k xs)) at)

-- ---- a list of numbers below a bound, each once

abbrev if_so : ℕ → Bool → ℕ
if_so k b = cond b k 0

-- what stands never, or once, is counted never, or once
never_there : {X : Type 0} (p : X → Bool) (k : ℕ) (xs : List X) → count_by p xs ≡ 0 → sum_by (λ x. cond (p x) k 0) xs ≡ 0
never_there p k [] h = refl
never_there p k (x ∷ xs) h =
    let counted = sum_by-cons (λ y. cond (p y) 1 0) x xs in
    let costs = sum_by-cons (λ y. cond (p y) k 0) x xs in
    elim (cases_Bool (p x)) [
      | inl so ↦ let one : if_so 1 (p x) ≡ 1 = ap (if_so 1) so in absurd (omega (arith, one, counted))
      | inr apart ↦
          let none : if_so 1 (p x) ≡ 0 = ap (if_so 1) apart in
          let mine : if_so k (p x) ≡ 0 = ap (if_so k) apart in
          omega (arith, mine, costs, never_there p k xs (omega (arith, none, counted)))
    ]

once_there : {X : Type 0} (p : X → Bool) (k : ℕ) (xs : List X) → count_by p xs ≡ 1 → sum_by (λ x. cond (p x) k 0) xs ≡ k
once_there p k [] h = absurd (omega arith)
once_there p k (x ∷ xs) h =
    let counted = sum_by-cons (λ y. cond (p y) 1 0) x xs in
    let costs = sum_by-cons (λ y. cond (p y) k 0) x xs in
    elim (cases_Bool (p x)) [
      | inl so ↦
          let one : if_so 1 (p x) ≡ 1 = ap (if_so 1) so in
          let mine : if_so k (p x) ≡ k = ap (if_so k) so in
          omega (arith, mine, costs, never_there p k xs (omega (arith, one, counted)))
      | inr apart ↦
          let none : if_so 1 (p x) ≡ 0 = ap (if_so 1) apart in
          let mine : if_so k (p x) ≡ 0 = ap (if_so k) apart in
          omega (arith, mine, costs, once_there p k xs (omega (arith, none, counted)))
    ]

by_number : (f : ℕ → ℕ) (order : List WireId) (n : ℕ) → All (λ w. w.0 < n) order
    → sum_by (λ v. f v.0) order ≡ total (λ i. sum_by (λ v. cond (v.0 == i) (f i) 0) order) n
by_number f [] n h = sym (total-none n)
by_number f (v ∷ vs) n h =
    let low : v.0 < n = All-head (λ w. w.0 < n) v vs h in
    let rest = by_number f vs n (All-tail (λ w. w.0 < n) v vs h) in
    let mine = total-one f v.0 n low in
    let both = total-both (λ i. cond (v.0 == i) (f i) 0) (λ i. sum_by (λ w. cond (w.0 == i) (f i) 0) vs) n in
    let same = total-same (λ i. cond (v.0 == i) (f i) 0 + sum_by (λ w. cond (w.0 == i) (f i) 0) vs)
    (λ i. sum_by (λ w. cond (w.0 == i) (f i) 0) (v ∷ vs)) n (λ i l. sym (sum_by-cons (λ w. cond (w.0 == i) (f i) 0) v vs)) in
    omega (arith, sum_by-cons (λ (w : WireId). f w.0) v vs, rest, mine, both, same)

pub permuted : (f : ℕ → ℕ) (order : List WireId) (n : ℕ) → All (λ w. w.0 < n) order → ((i : ℕ) → i < n → times order i ≡ 1)
    → sum_by (λ v. f v.0) order ≡ total f n
permuted f order n h once =
    by_number f order n h
    ∙ total-same (λ i. sum_by (λ v. cond (v.0 == i) (f i) 0) order) f n (λ i l. once_there (λ (v : WireId). v.0 == i) (f i) order (once i l))

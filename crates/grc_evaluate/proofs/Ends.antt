-- The ends of an instance, looked through one after another.
use Rattle.std.proofs.Common.{◌≡◌, ℕ, ◌+◌, ◌-◌, ◌<◌, ◌≤◌, zero, suc, Bool, true, false, ◌||◌, List, length, drop, slice_index_or, sym, ap, ◌∙◌, arith, inl, inr}
use Rattle.std.proofs.Common.{length-drop}
use Rattle.std.specs.List.{prefix_len}
use Rattle.std.proofs.lemmas.Bool.{cases_lt, or_left, or_right, false≢true}
use Rattle.std.proofs.lemmas.List.{get_or-drop}
use Rattle.std.proofs.lemmas.List.Sums.{prefix_len_is, prefix_len_stops}
use Rattle.grc_formulas.specs.WordLaws.{any_from}

-- The elements from a first place up to this one pass the test, and none of them has a true value.
pub record Passed {X : Type 0} (p : X → Bool) (f : ℕ → Bool) (xs : List X) (first at : ℕ) : Type 0 where
  pub begun : first ≤ at
  pub pass : (v : ℕ) (d : X) → first ≤ v → v < at → p (slice_index_or xs v d) ≡ true
  pub silent : any_from f first (at - first) ≡ false

pub passed-none : {X : Type 0} (p : X → Bool) (f : ℕ → Bool) (xs : List X) (first : ℕ) → Passed p f xs first first
passed-none p f xs first =
    let none : first - first ≡ 0 = omega arith in
    record { begun = omega arith; pass = λ v d low high. absurd (omega arith); silent = ap (any_from f first) none }

pub passed-more : {X : Type 0} (p : X → Bool) (f : ℕ → Bool) (xs : List X) (first at : ℕ) → Passed p f xs first at
    → ((d : X) → p (slice_index_or xs at d) ≡ true) → f at ≡ false → Passed p f xs first (at + 1)
passed-more p f xs first at m here never =
    let begun = m.begun in
    let more : at + 1 - first ≡ suc (at - first) = omega arith in
    let there : first + (at - first) ≡ at = omega arith in
    record {
      begun = omega arith;
      pass = λ v d low high. elim (cases_lt v at) [
        | inl less ↦ m.pass v d low less
        | inr most ↦ let same : v ≡ at = omega arith in ap (λ n. p (slice_index_or xs n d)) same ∙ here d
      ];
      silent = ap (any_from f first) more ∙ ap (λ b. b || f (first + (at - first))) m.silent ∙ ap f there ∙ never;
    }

pass-front : {X : Type 0} (p : X → Bool) (f : ℕ → Bool) (xs : List X) (first at : ℕ) (d : X) → Passed p f xs first at
    → (k : ℕ) → k < at - first → p (slice_index_or (drop first xs) k d) ≡ true
pass-front p f xs first at d m k low = ap p (get_or-drop first xs k d) ∙ m.pass (first + k) d (omega arith) (omega arith)

-- where the next one does not pass, or there is none, that was all
pub passed-all : {X : Type 0} (p : X → Bool) (f : ℕ → Bool) (xs : List X) (first at : ℕ) (d : X) → Passed p f xs first at → at ≤ length xs
    → (at < length xs → p (slice_index_or xs at d) ≡ false) → any_from f first (prefix_len p (drop first xs)) ≡ false
passed-all p f xs first at d m within stops =
    let begun = m.begun in
    let there : first + (at - first) ≡ at = omega arith in
    let many = length-drop first xs in
    let count = prefix_len_is p (drop first xs) (at - first) d (omega arith) (pass-front p f xs first at d m)
    (λ low. ap p (get_or-drop first xs (at - first) d) ∙ ap (λ n. p (slice_index_or xs n d)) there ∙ stops (omega arith)) in
    ap (any_from f first) count ∙ m.silent

any-true : (f : ℕ → Bool) (first count n : ℕ) → n < count → f (first + n) ≡ true → any_from f first count ≡ true
any-true f first zero n low so = absurd (omega arith)
any-true f first (suc count) n low so = elim (cases_lt n count) [
  | inl less ↦ or_left (any_from f first count) (f (first + count)) (any-true f first count n less so)
  | inr more ↦
      let same : count ≡ n = omega arith in
      or_right (any_from f first count) (f (first + count)) (ap (λ k. f (first + k)) same ∙ so)
]

-- where one more passes, that one is among those that do
pub passed-true : {X : Type 0} (p : X → Bool) (f : ℕ → Bool) (xs : List X) (first at : ℕ) (d : X) → Passed p f xs first at → at < length xs
    → p (slice_index_or xs at d) ≡ true → f at ≡ true → any_from f first (prefix_len p (drop first xs)) ≡ true
passed-true p f xs first at d m within here so =
    let begun = m.begun in
    let ys = drop first xs in
    let there : first + (at - first) ≡ at = omega arith in
    let many = length-drop first xs in
    elim (cases_lt (at - first) (prefix_len p ys)) [
      | inl low ↦ any-true f first (prefix_len p ys) (at - first) low (ap f there ∙ so)
      | inr few ↦
          let stop = prefix_len_stops p ys d (omega arith) in
          let pass : p (slice_index_or ys (prefix_len p ys) d) ≡ true = elim (cases_lt (prefix_len p ys) (at - first)) [
            | inl less ↦ pass-front p f xs first at d m (prefix_len p ys) less
            | inr more ↦
                let same : prefix_len p ys ≡ at - first = omega arith in
                ap (λ n. p (slice_index_or ys n d)) same ∙ ap p (get_or-drop first xs (at - first) d) ∙ ap (λ n. p (slice_index_or xs n d)) there ∙ here
          ] in
          absurd (false≢true (sym stop ∙ pass))
    ]

-- Sets of codes as tests: what is in the maxima of two sets, and in a set that a trap has lowered.
use Rattle.std.proofs.Common.{◌≡◌, ℕ, zero, suc, ◌≤◌, Bool, true, ◌&&◌, max, refl, sym, ◌∙◌, subst, ⊎_elim, arith}
use Rattle.std.proofs.lemmas.Bool.{or_cases, or_left, or_right, and_parts, and_from, eq-eqb, ne_eqb, not-true, not_from_false, cases_lt, false≢true}
use Rattle.base_types.specs.Codes.{either, except, upto, maxima, lowered}
use Rattle.est_kernel.specs.Steps.{trap_code}
use Rattle.est_kernel.specs.Laws.{IsSubset}

pub except-in : (A : ℕ → Bool) (c k : ℕ) → A k ≡ true → (k ≡ c → ⊥) → except c A k ≡ true
except-in A c k h n = and_from _ _ h (not_from_false _ (ne_eqb k c n))

pub except-parts : (A : ℕ → Bool) (c k : ℕ) → except c A k ≡ true → (A k ≡ true) × (k ≡ c → ⊥)
except-parts A c k h =
    let p = and_parts (A k) _ h in
    (p.0, λ e. false≢true (sym (not-true _ p.1) ∙ eq-eqb k c e))

pub upto-in : (A : ℕ → Bool) (j k : ℕ) → A j ≡ true → j ≤ k → upto A k ≡ true
upto-in A j zero h l = let e : j ≡ 0 = omega arith in subst (λ n. A n ≡ true) e h
upto-in A j (suc k) h l =
    ⊎_elim
    (λ lt. or_left (upto A k) (A (suc k)) (upto-in A j k h (omega arith)))
    (λ ge. let e : j ≡ suc k = omega arith in
    or_right (upto A k) (A (suc k)) (subst (λ n. A n ≡ true) e h))
    (cases_lt j (suc k))

pub upto-parts : (A : ℕ → Bool) (k : ℕ) → upto A k ≡ true → (j : ℕ) × (j ≤ k) × (A j ≡ true)
upto-parts A zero h = (0, omega arith, h)
upto-parts A (suc k) h =
    ⊎_elim
    (λ l. let r = upto-parts A k l in (r.0, omega (arith, r.1), r.2))
    (λ e. (suc k, omega arith, e))
    (or_cases (upto A k) (A (suc k)) h)

pub maxima-in : (A B : ℕ → Bool) (i j : ℕ) → A i ≡ true → B j ≡ true → maxima A B (max i j) ≡ true
maxima-in A B i j a b =
    ⊎_elim
    (λ lt. let e : max i j ≡ j = omega arith in
    subst (λ n. maxima A B n ≡ true) (sym e)
    (or_right (A j && upto B j) _ (and_from (B j) _ b (upto-in A i j a (omega arith)))))
    (λ ge. let e : max i j ≡ i = omega arith in
    subst (λ n. maxima A B n ≡ true) (sym e)
    (or_left _ (B i && upto A i) (and_from (A i) _ a (upto-in B j i b ge))))
    (cases_lt i j)

pub maxima-parts : (A B : ℕ → Bool) (k : ℕ) → maxima A B k ≡ true → (i : ℕ) × (j : ℕ) × (A i ≡ true) × (B j ≡ true) × (k ≡ max i j)
maxima-parts A B k h =
    ⊎_elim
    (λ l. let p = and_parts (A k) _ l in let r = upto-parts B k p.1 in
    (k, r.0, p.0, r.2, omega (arith, r.1)))
    (λ l. let p = and_parts (B k) _ l in let r = upto-parts A k p.1 in
    (r.0, k, r.2, p.0, omega (arith, r.1)))
    (or_cases (A k && upto B k) (B k && upto A k) h)

pub lowered-in : (A : ℕ → Bool) (j : ℕ) → A j ≡ true → lowered A (trap_code j) ≡ true
lowered-in A zero h = or_left (A 0) (A 2) h
lowered-in A (suc zero) h = h
lowered-in A (suc (suc zero)) h = or_right (A 0) (A 2) h
lowered-in A (suc (suc (suc j))) h = h

pub lowered-parts : (A : ℕ → Bool) (k : ℕ) → lowered A k ≡ true → (j : ℕ) × (A j ≡ true) × (k ≡ trap_code j)
lowered-parts A zero h = ⊎_elim (λ a. (0, a, refl)) (λ a. (2, a, refl)) (or_cases (A 0) (A 2) h)
lowered-parts A (suc zero) h = (1, h, refl)
lowered-parts A (suc (suc k)) h = (suc (suc (suc k)), h, refl)

pub maxima-subset : (A B C D : ℕ → Bool) → IsSubset A C → IsSubset B D → IsSubset (maxima A B) (maxima C D)
maxima-subset A B C D f g k h =
    let r = maxima-parts A B k h in
    subst (λ n. maxima C D n ≡ true) (sym r.4) (maxima-in C D r.0 r.1 (f r.0 r.2) (g r.1 r.3))

pub lowered-subset : (A B : ℕ → Bool) → IsSubset A B → IsSubset (lowered A) (lowered B)
lowered-subset A B f k h =
    let r = lowered-parts A k h in
    subst (λ n. lowered B n ≡ true) (sym r.2) (lowered-in B r.0 (f r.0 r.1))

pub either-subset : (A B C D : ℕ → Bool) → IsSubset A C → IsSubset B D → IsSubset (either A B) (either C D)
either-subset A B C D f g k h =
    ⊎_elim (λ a. or_left (C k) (D k) (f k a)) (λ b. or_right (C k) (D k) (g k b)) (or_cases (A k) (B k) h)

-- The codes of a set in order, one by one.
use Rattle.std.proofs.Common.{◌≡◌, ℕ, zero, suc, ◌+◌, ◌-◌, ◌<◌, ◌≤◌, Bool, true, false, List, [], ◌∷◌, ◌++◌, map, refl, ap, ◌∙◌, sym}
use Rattle.std.proofs.Common.{add-one, append_assoc, arith}
use Rattle.std.proofs.Math.Bool.{and-true}
use Rattle.std.proofs.lemmas.Bool.{ne_eqb}
use Rattle.std.proofs.lemmas.List.{map-append, append-nil}
use Rattle.std.specs.Prelude.{if◌then◌else◌, not, ◌&&◌, ◌==◌}
use Rattle.base_types.specs.Codes.{except}
use Rattle.grc_graph.specs.Wires.{codes_below, listed}

below_suc : (n : ℕ) (A : ℕ → Bool) (b : Bool) → A n ≡ b → codes_below (suc n) A ≡ codes_below n A ++ (if b then n ∷ [] else [])
unfolding codes_below
below_suc n A b e = ap (λ t. codes_below n A ++ (if t then n ∷ [] else [])) e

pub codes_below-none : (A : ℕ → Bool) → codes_below 0 A ≡ []
unfolding codes_below
codes_below-none A = refl

pub codes_below-has : {X : Type 0} (f : ℕ → X) (xs : List X) (n : ℕ) (A : ℕ → Bool) → A n ≡ true
    → xs ++ map f (codes_below (n + 1) A) ≡ (xs ++ map f (codes_below n A)) ++ f n ∷ []
codes_below-has f xs n A e =
    ap (λ l. xs ++ map f l) (ap (λ k. codes_below k A) (add-one n) ∙ below_suc n A true e)
    ∙ ap (λ l. xs ++ l) (map-append f (codes_below n A) (n ∷ [])) ∙ sym (append_assoc xs (map f (codes_below n A)) (f n ∷ []))

pub codes_below-lacks : {X : Type 0} (f : ℕ → X) (xs : List X) (n : ℕ) (A : ℕ → Bool) → A n ≡ false
    → xs ++ map f (codes_below (n + 1) A) ≡ xs ++ map f (codes_below n A)
codes_below-lacks f xs n A e =
    ap (λ l. xs ++ map f l) (ap (λ k. codes_below k A) (add-one n) ∙ below_suc n A false e ∙ append-nil (codes_below n A))

pub codes_below-all : (n : ℕ) (A : ℕ → Bool) → n ≡ 64 → codes_below n A ≡ listed A
unfolding listed
codes_below-all n A e = ap (λ k. codes_below k A) e

-- where a set has no code from n on
pub codes_below-past : (n m : ℕ) (A : ℕ → Bool) → ((k : ℕ) → n ≤ k → k < n + m → A k ≡ false) → codes_below (n + m) A ≡ codes_below n A
codes_below-past n zero A h = ap (λ k. codes_below k A) (let e : n + zero ≡ n = omega arith in e)
codes_below-past n (suc m) A h =
    ap (λ k. codes_below k A) (let e : n + suc m ≡ suc (n + m) = omega arith in e) ∙ below_suc (n + m) A false (h (n + m) (omega arith) (omega arith))
    ∙ append-nil (codes_below (n + m) A) ∙ codes_below-past n m A (λ k l g. h k l (omega (arith, g)))

pub codes_below-end : (n : ℕ) (A : ℕ → Bool) → n ≤ 64 → ((k : ℕ) → n ≤ k → k < 64 → A k ≡ false) → codes_below n A ≡ listed A
unfolding listed
codes_below-end n A le h =
    let e : n + (64 - n) ≡ 64 = omega arith in
    sym (codes_below-past n (64 - n) A (λ k l g. h k l (omega (arith, g, e)))) ∙ ap (λ k. codes_below k A) e

-- a set without one code has the others
pub except-other : (A : ℕ → Bool) (c k : ℕ) → (k ≡ c → ⊥) → except c A k ≡ A k
except-other A c k h = let e : (k == c) ≡ false = ne_eqb k c h in ap (λ b. A k && not b) e ∙ and-true (A k)

pub codes_below-suc : (n : ℕ) (A : ℕ → Bool) → codes_below (suc n) A ≡ codes_below n A ++ (if A n then n ∷ [] else [])
unfolding codes_below
codes_below-suc n A = refl

pub listed-below : (A : ℕ → Bool) → listed A ≡ codes_below 64 A
unfolding listed
listed-below A = refl

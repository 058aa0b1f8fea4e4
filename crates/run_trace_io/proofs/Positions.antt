-- Where names differ, a place that has a name is the first that has it.
use Rattle.std.proofs.Common.{◌≡◌, ℕ, ◌<◌, zero, suc, Bool, true, false, not, List, [], ◌∷◌, length, get_or, refl, sym, ◌∙◌, arith}
use Rattle.std.proofs.Common.{Some, None}
use Rattle.std.specs.Prelude.{position}
use Rattle.std.specs.List.{list_any, position_or_len}
use Rattle.std.specs.Cmp.{IsEquivalence}
use Rattle.std.proofs.lemmas.Bool.{and_parts, or_left, or_right, not-true, false≢true, false_from_ne_true, lt-ltb, le-ltb}
use Rattle.std.proofs.lemmas.List.Sums.{position_or_len_is}
use Rattle.base_types.specs.Distinct.{all_differ}

-- the first place that passes
pub position-first : {X : Type 0} (p : X → Bool) (xs : List X) (i : ℕ) (d : X) → i < length xs → ((k : ℕ) → k < i → p (get_or xs k d) ≡ false) →
    p (get_or xs i d) ≡ true → position p xs ≡ Some i
position-first p xs i d low before here =
    let place : position_or_len p xs ≡ i = position_or_len_is p xs i d (omega arith) before (λ h. here) in
    let inside = lt-ltb i (length xs) low in
    rw (place, inside) refl

pub position-none : {X : Type 0} (p : X → Bool) (xs : List X) (i : ℕ) (d : X) → i ≡ length xs → ((k : ℕ) → k < i → p (get_or xs k d) ≡ false) →
    position p xs ≡ None
position-none p xs i d all before =
    let place : position_or_len p xs ≡ i = position_or_len_is p xs i d (omega arith) before (λ h. absurd (omega arith)) in
    let outside = le-ltb i (length xs) (omega arith) in
    rw (place, outside) refl

list_any-at : {X : Type 0} (p : X → Bool) (xs : List X) (k : ℕ) (d : X) → k < length xs → p (get_or xs k d) ≡ true → list_any p xs ≡ true
list_any-at p [] k d low here = absurd (omega arith)
list_any-at p (x ∷ xs) zero d low here = or_left (p x) (list_any p xs) here
list_any-at p (x ∷ xs) (suc k) d low here = or_right (p x) (list_any p xs) (list_any-at p xs k d (omega arith) here)

all_differ-at : {X : Type 0} (same : X → X → Bool) (xs : List X) (j k : ℕ) (d : X) → all_differ same xs ≡ true → j < k → k < length xs →
    same (get_or xs j d) (get_or xs k d) ≡ false
all_differ-at same [] j k d differ before low = absurd (omega arith)
all_differ-at same (x ∷ xs) zero zero d differ before low = absurd (omega arith)
all_differ-at same (x ∷ xs) (suc j) zero d differ before low = absurd (omega arith)
all_differ-at same (x ∷ xs) zero (suc k) d differ before low =
    let parts = and_parts (not (list_any (same x) xs)) (all_differ same xs) differ in
    false_from_ne_true (same x (get_or xs k d)) (λ here. false≢true
    (sym (not-true (list_any (same x) xs) parts.0) ∙ list_any-at (same x) xs k d (omega arith) here))
all_differ-at same (x ∷ xs) (suc j) (suc k) d differ before low =
    let parts = and_parts (not (list_any (same x) xs)) (all_differ same xs) differ in
    all_differ-at same xs j k d parts.1 (omega arith) (omega arith)

-- the place of what is the same as an element
pub position-differ : {X : Type 0} (same : X → X → Bool) → IsEquivalence same → (xs : List X) (x : X) (i : ℕ) (d : X) → all_differ same xs ≡ true →
    i < length xs → same x (get_or xs i d) ≡ true → position (same x) xs ≡ Some i
position-differ same equiv xs x i d differ low here =
    let before = λ (k : ℕ) (h : k < i). false_from_ne_true (same x (get_or xs k d)) (λ there.
    false≢true (sym (all_differ-at same xs k i d differ h low) ∙ sym (equiv.congr x (get_or xs k d) (get_or xs i d) there) ∙ here)) in
    position-first (same x) xs i d low before here

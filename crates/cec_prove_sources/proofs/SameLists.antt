-- Lists that are the same by a test.
use Rattle.std.proofs.Common.{◌≡◌, ◌<◌, ◌≤◌, ℕ, zero, suc, ◌==◌, Bool, true, false, ◌&&◌, List, [], ◌∷◌, length, drop, get_or, refl, sym, ap, ◌∙◌, arith}
use Rattle.std.proofs.Common.{nat_eq}
use Rattle.std.proofs.lemmas.Bool.{and_from, and_parts, eq-eqb, eqb-true, true≢false}
use Rattle.base_types.specs.Names.{is_same_name}
use Rattle.base_types.specs.Relations.{Relation, Implies, Excludes}
use Rattle.base_types.proofs.Exports.{same_name-is, same_name-self}
use Rattle.std.specs.Cmp.Lexicographic.{pointwise}
use Rattle.cec_prove_sources.specs.Interfaces.{is_same_relation}

are-same-is : {X : Type 0} (same : X → X → Bool) → ((x y : X) → same x y ≡ true → x ≡ y) → (xs ys : List X) → pointwise same xs ys ≡ true → xs ≡ ys
are-same-is same is [] [] e = refl
are-same-is same is [] (y ∷ ys) e = absurd (true≢false (sym e))
are-same-is same is (x ∷ xs) [] e = absurd (true≢false (sym e))
are-same-is same is (x ∷ xs) (y ∷ ys) e =
    let parts = and_parts (same x y) (pointwise same xs ys) e in
    let here = is x y parts.0 in
    let rest = are-same-is same is xs ys parts.1 in
    λ i. here i ∷ rest i

are-same-itself : {X : Type 0} (same : X → X → Bool) → ((x : X) → same x x ≡ true) → (xs : List X) → pointwise same xs xs ≡ true
are-same-itself same itself [] = refl
are-same-itself same itself (x ∷ xs) = and_from (same x x) (pointwise same xs xs) (itself x) (are-same-itself same itself xs)

other : {X : Type 0} (same : X → X → Bool) → ((x : X) → same x x ≡ true) → (xs ys : List X) → pointwise same xs ys ≡ false → xs ≡ ys → ⊥
other same itself xs ys differ is = true≢false (sym (are-same-itself same itself xs) ∙ ap (pointwise same xs) is ∙ differ)

-- ---- lists that differ from a place on

none-left : {X : Type 0} (same : X → X → Bool) (xs : List X) (k : ℕ) → k < length xs → pointwise same (drop k xs) [] ≡ false
none-left same [] k low = absurd (omega arith)
none-left same (x ∷ xs) zero low = refl
none-left same (x ∷ xs) (suc k) low = none-left same xs k (omega arith)

pub shorter-differs : {X : Type 0} (same : X → X → Bool) (xs ys : List X) (k : ℕ) → k < length xs → length ys ≤ k
    → pointwise same (drop k xs) (drop k ys) ≡ false
shorter-differs same [] ys k low high = absurd (omega arith)
shorter-differs same (x ∷ xs) [] zero low high = refl
shorter-differs same (x ∷ xs) (y ∷ ys) zero low high = absurd (omega arith)
shorter-differs same (x ∷ xs) [] (suc k) low high = none-left same xs k (omega arith)
shorter-differs same (x ∷ xs) (y ∷ ys) (suc k) low high = shorter-differs same xs ys k (omega arith) (omega arith)

pub one-differs : {X : Type 0} (same : X → X → Bool) (xs ys : List X) (k : ℕ) (d e : X) → k < length xs → k < length ys
    → same (get_or xs k d) (get_or ys k e) ≡ false → pointwise same (drop k xs) (drop k ys) ≡ false
one-differs same [] ys k d e low low' differ = absurd (omega arith)
one-differs same (x ∷ xs) [] k d e low low' differ = absurd (omega arith)
one-differs same (x ∷ xs) (y ∷ ys) zero d e low low' differ = ap (λ b. b && pointwise same xs ys) differ
one-differs same (x ∷ xs) (y ∷ ys) (suc k) d e low low' differ = one-differs same xs ys k d e (omega arith) (omega arith) differ

-- ---- names

pub names-same : (xs ys : List (List ℕ)) → pointwise is_same_name xs ys ≡ true → xs ≡ ys
names-same xs ys e = are-same-is is_same_name same_name-is xs ys e

pub names-other : (xs ys : List (List ℕ)) → pointwise is_same_name xs ys ≡ false → xs ≡ ys → ⊥
names-other xs ys differ = other is_same_name same_name-self xs ys differ

-- ---- relations

same-relation-is : (r s : Relation) → is_same_relation r s ≡ true → r ≡ s
same-relation-is (Implies a b) (Implies c d) e =
    let parts = and_parts (a == c) (b == d) e in
    let cause = eqb-true a c parts.0 in
    let effect = eqb-true b d parts.1 in
    λ i. Implies (cause i) (effect i)
same-relation-is (Excludes s) (Excludes t) e = ap Excludes (are-same-is nat_eq eqb-true s t e)
same-relation-is (Implies a b) (Excludes t) e = absurd (true≢false (sym e))
same-relation-is (Excludes s) (Implies c d) e = absurd (true≢false (sym e))

same-relation-itself : (r : Relation) → is_same_relation r r ≡ true
same-relation-itself (Implies a b) = and_from (a == a) (b == b) (eq-eqb a a refl) (eq-eqb b b refl)
same-relation-itself (Excludes s) = are-same-itself nat_eq (λ n. eq-eqb n n refl) s

pub relations-same : (xs ys : List Relation) → pointwise is_same_relation xs ys ≡ true → xs ≡ ys
relations-same xs ys e = are-same-is is_same_relation same-relation-is xs ys e

pub relations-other : (xs ys : List Relation) → pointwise is_same_relation xs ys ≡ false → xs ≡ ys → ⊥
relations-other xs ys differ = other is_same_relation same-relation-itself xs ys differ

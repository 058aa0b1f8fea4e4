-- Clauses whose literals are denied, and clauses that are always true.
use Rattle.std.proofs.Common.{◌≡◌, ◌==◌, if◌then◌else◌, ℕ, Bool, true, false, not, ◌||◌, List, [], ◌∷◌, map, refl, sym, ap, ◌∙◌, ⊎_elim}
use Rattle.std.specs.List.{list_any}
use Rattle.std.proofs.lemmas.Bool.{and_parts, eqb-true, or_cases, or_left, or_right, true≢false}
use Rattle.sat_kernel.specs.declared.literals.Literal.{Literal}
use Rattle.sat_kernel.specs.Clauses.{IsImplied, clause_value, literal_value, opposite}
use Rattle.sat_kernel.specs.Propagation.{is_same, is_same_sign}

twice-opposite : (p b : Bool) → (if not (not p) then b else not b) ≡ (if p then b else not b)
twice-opposite true b = refl
twice-opposite false b = refl

-- denied twice, a clause has its value
denied-value : (v : ℕ → Bool) (clause : List Literal) → clause_value v (map opposite (map opposite clause)) ≡ clause_value v clause
denied-value v [] = refl
denied-value v (l ∷ ls) =
    ap (λ b. b || clause_value v (map opposite (map opposite ls))) (twice-opposite l.positive (v l.variable))
    ∙ ap (λ b. literal_value v l || b) (denied-value v ls)

-- where the denials of its literals are refuted, a clause follows
pub follows-denied : (known : List (List Literal)) (clause denial : List Literal) → denial ≡ map opposite clause
    → IsImplied known (map opposite denial) → IsImplied known clause
follows-denied known clause denial is refuted v model =
    sym (denied-value v clause) ∙ ap (λ ls. clause_value v (map opposite ls)) (sym is) ∙ refuted v model

-- ---- a literal and its negation

signs : (p q b : Bool) → is_same_sign (not p) q ≡ true → ((if p then b else not b) || (if q then b else not b)) ≡ true
signs true true b e = absurd (true≢false (sym e))
signs true false true e = refl
signs true false false e = refl
signs false true true e = refl
signs false true false e = refl
signs false false b e = absurd (true≢false (sym e))

-- a literal, or one that is its negation, is true
either : (v : ℕ → Bool) (l m : Literal) → is_same (opposite l) m ≡ true → (literal_value v l || literal_value v m) ≡ true
either v l m e =
    let parts = and_parts (l.variable == m.variable) (is_same_sign (not l.positive) m.positive) e in
    let x : l.variable ≡ m.variable = eqb-true l.variable m.variable parts.0 in
    ap (λ n. literal_value v l || (if m.positive then v n else not (v n))) (sym x) ∙ signs l.positive m.positive (v l.variable) parts.1

-- a literal is true, or a clause that has its negation is
with-negation : (v : ℕ → Bool) (l : Literal) (clause : List Literal) → list_any (is_same (opposite l)) clause ≡ true
    → (literal_value v l || clause_value v clause) ≡ true
with-negation v l [] e = absurd (true≢false (sym e))
with-negation v l (m ∷ ms) e =
    ⊎_elim
    (λ here. ⊎_elim
    (λ yes. or_left (literal_value v l) (clause_value v (m ∷ ms)) yes)
    (λ other. or_right (literal_value v l) (clause_value v (m ∷ ms)) (or_left (literal_value v m) (clause_value v ms) other))
    (or_cases (literal_value v l) (literal_value v m) (either v l m here)))
    (λ later. ⊎_elim
    (λ yes. or_left (literal_value v l) (clause_value v (m ∷ ms)) yes)
    (λ other. or_right (literal_value v l) (clause_value v (m ∷ ms)) (or_right (literal_value v m) (clause_value v ms) other))
    (or_cases (literal_value v l) (clause_value v ms) (with-negation v l ms later)))
    (or_cases (is_same (opposite l) m) (list_any (is_same (opposite l)) ms) e)

-- a literal of a clause that is true makes the clause true
true-for-all : (v : ℕ → Bool) (clause part : List Literal) → ((l : Literal) → list_any (is_same (opposite l)) clause ≡ true
    → (literal_value v l || clause_value v clause) ≡ true)
    → list_any (λ l. list_any (is_same (opposite l)) clause) part ≡ true → (clause_value v part || clause_value v clause) ≡ true
true-for-all v clause [] each e = absurd (true≢false (sym e))
true-for-all v clause (l ∷ ls) each e =
    ⊎_elim
    (λ here. ⊎_elim
    (λ yes. or_left (clause_value v (l ∷ ls)) (clause_value v clause) (or_left (literal_value v l) (clause_value v ls) yes))
    (λ other. or_right (clause_value v (l ∷ ls)) (clause_value v clause) other)
    (or_cases (literal_value v l) (clause_value v clause) (each l here)))
    (λ later. ⊎_elim
    (λ yes. or_left (clause_value v (l ∷ ls)) (clause_value v clause) (or_right (literal_value v l) (clause_value v ls) yes))
    (λ other. or_right (clause_value v (l ∷ ls)) (clause_value v clause) other)
    (or_cases (clause_value v ls) (clause_value v clause) (true-for-all v clause ls each later)))
    (or_cases (list_any (is_same (opposite l)) clause) (list_any (λ k. list_any (is_same (opposite k)) clause) ls) e)

or-twice : (b : Bool) → (b || b) ≡ true → b ≡ true
or-twice true e = refl
or-twice false e = e

-- a clause that has a literal and its negation is true
pub tautology-follows : (known : List (List Literal)) (clause : List Literal) → list_any (λ l. list_any (is_same (opposite l)) clause) clause ≡ true
    → IsImplied known clause
tautology-follows known clause has v model =
    or-twice (clause_value v clause) (true-for-all v clause clause (λ l e. with-negation v l clause e) has)

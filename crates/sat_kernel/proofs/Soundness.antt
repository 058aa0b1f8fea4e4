-- A clause that is implied along hints follows from the clauses that they cite.
use Rattle.std.proofs.Common.{◌≡◌, ◌==◌, ◌++◌, if◌then◌else◌, cond, ℕ, zero, suc, Bool, true, false, not, ◌||◌, List, [], ◌∷◌, replicate, refl}
use Rattle.std.proofs.Common.{sym, ap, ◌∙◌, subst, ⊎_elim, Option, Some, None}
use Rattle.std.specs.Prelude.{IsTrue, find, slice_get}
use Rattle.std.specs.List.{list_all}
use Rattle.std.proofs.lemmas.List.Folds.{list_all-append}
use Rattle.std.proofs.lemmas.Bool.{true≢false, or_cases, or_parts, and_parts, cases_Bool, eqb-true, both_ways}
use Rattle.sat_kernel.specs.declared.literals.Literal.{Literal}
use Rattle.sat_kernel.specs.declared.literals.Premise.{Premise}
use Rattle.sat_kernel.specs.declared.literals.Premise.TheVariants.{Assumed, Derived}
use Rattle.sat_kernel.specs.declared.marks.Mark.{Mark}
use Rattle.sat_kernel.specs.declared.marks.Mark.TheVariants.{Unknown}
use Rattle.sat_kernel.specs.declared.propagation.ClauseState.TheVariants.{Unit, Open}
use Rattle.sat_kernel.specs.Clauses.{Derivation, IsImplied, IsModel, clause_value, literal_value}
use Rattle.sat_kernel.specs.Propagation.{after_clause, after_state, cited, denied, is_false, is_implied_along, is_same, is_same_sign, state_by_first}
use Rattle.sat_kernel.specs.Propagation.{propagated, with_mark, truth_mark}
use Rattle.sat_kernel.specs.Kernels.{DerivedFollow}
use Rattle.sat_kernel.proofs.MarkLaws.{Agrees, agrees-true, agrees-false, agrees-none, is_false-value}

-- ---- literals and clauses

same-sign : (p q b : Bool) → is_same_sign p q ≡ true → (if q then b else not b) ≡ (if p then b else not b)
same-sign true true b e = refl
same-sign true false b e = absurd (true≢false (sym e))
same-sign false true b e = absurd (true≢false (sym e))
same-sign false false b e = refl

same-value : (v : ℕ → Bool) (l m : Literal) → is_same l m ≡ true → literal_value v m ≡ literal_value v l
same-value v l m e =
    let parts = and_parts (l.variable == m.variable) (is_same_sign l.positive m.positive) e in
    let x : l.variable ≡ m.variable = eqb-true l.variable m.variable parts.0 in
    ap (λ n. if m.positive then v n else not (v n)) (sym x) ∙ same-sign l.positive m.positive (v l.variable) parts.1

-- a clause with no literal that is not false is false
none-left : (v : ℕ → Bool) (marks : List Mark) (clause : List Literal) → Agrees v marks → find (λ l. not (is_false marks l)) clause ≡ None
    → clause_value v clause ≡ false
none-left v marks [] agrees e = refl
none-left v marks (l ∷ ls) agrees e = elim (is_false marks l) as (λ b.
    is_false marks l ≡ b → cond (not b) (Some l) (find (λ m. not (is_false marks m)) ls) ≡ None → (literal_value v l || clause_value v ls) ≡ false) [
      | true ↦ λ is rest. let f = is_false-value v marks l agrees is in let g = none-left v marks ls agrees rest in rw (f, g) refl
      | false ↦ λ is rest. cc
    ] refl e

-- where each literal but one is false, that one is as true as the clause
one-left : (v : ℕ → Bool) (marks : List Mark) (l : Literal) (clause : List Literal) → Agrees v marks
    → list_all (λ m. is_false marks m || is_same l m) clause ≡ true → clause_value v clause ≡ true → literal_value v l ≡ true
one-left v marks l [] agrees all e = absurd (true≢false (sym e))
one-left v marks l (m ∷ ms) agrees all e =
    let parts = and_parts (is_false marks m || is_same l m) (list_all (λ k. is_false marks k || is_same l k) ms) all in
    ⊎_elim
    (λ here. ⊎_elim
    (λ no. absurd (true≢false (sym here ∙ is_false-value v marks m agrees no)))
    (λ same. sym (same-value v l m same) ∙ here)
    (or_cases (is_false marks m) (is_same l m) parts.0))
    (λ later. one-left v marks l ms agrees parts.1 later)
    (or_cases (literal_value v m) (clause_value v ms) e)

agrees-denied : (v : ℕ → Bool) (marks : List Mark) (clause : List Literal) → clause_value v clause ≡ false → Agrees v marks → Agrees v (denied marks clause)
agrees-denied v marks [] e agrees = agrees
agrees-denied v marks (l ∷ ls) e agrees =
    let parts = or_parts (literal_value v l) (clause_value v ls) e in
    agrees-denied v (with_mark marks l.variable (truth_mark (not l.positive))) ls parts.1 (agrees-false v marks l parts.0 agrees)

-- ---- along hints

-- a clause that is true is not found false, and what it forces is true
state-holds : (v : ℕ → Bool) (marks : List Mark) (clause : List Literal) → Agrees v marks → clause_value v clause ≡ true
    → (first : Option Literal) → find (λ l. not (is_false marks l)) clause ≡ first
    → ((after_state marks (state_by_first marks clause first)).conflict ≡ false) × Agrees v (after_state marks (state_by_first marks clause first)).marks
state-holds v marks clause agrees holds None e = absurd (true≢false (sym holds ∙ none-left v marks clause agrees e))
state-holds v marks clause agrees holds (Some l) e = forced (list_all (λ m. is_false marks m || is_same l m) clause) refl
  where
    forced : (b : Bool) → list_all (λ m. is_false marks m || is_same l m) clause ≡ b
        → ((after_state marks (if b then Unit l else Open)).conflict ≡ false) × Agrees v (after_state marks (if b then Unit l else Open)).marks
    forced true all = (refl, agrees-true v marks l (one-left v marks l clause agrees all holds) agrees)
    forced false all = (refl, agrees)

after : (v : ℕ → Bool) (marks : List Mark) (clause : Option (List Literal)) → Agrees v marks
    → ((c : List Literal) → clause ≡ Some c → clause_value v c ≡ true)
    → ((after_clause marks clause).conflict ≡ false) × Agrees v (after_clause marks clause).marks
after v marks None agrees holds = (refl, agrees)
after v marks (Some c) agrees holds = state-holds v marks c agrees (holds c refl) (find (λ l. not (is_false marks l)) c) refl

-- where the cited clauses are true, none is found false
no-conflict : (v : ℕ → Bool) (clause_of : Premise → Option (List Literal)) → ((h : Premise) (c : List Literal) → clause_of h ≡ Some c → clause_value v c ≡ true)
    → (marks : List Mark) (hints : List Premise) → Agrees v marks → (propagated clause_of marks hints).conflict ≡ false
no-conflict v clause_of holds marks [] agrees = refl
no-conflict v clause_of holds marks (h ∷ hs) agrees =
    let one = after v marks (clause_of h) agrees (holds h) in
    let p = after_clause marks (clause_of h) in
    rw one.0 (no-conflict v clause_of holds p.marks hs one.1)

-- ---- what follows

-- an assumed clause is true wherever all are
assumed-true : (v : ℕ → Bool) (assumed : List (List Literal)) (k : ℕ) (c : List Literal) → IsModel v assumed → slice_get assumed k ≡ Some c
    → clause_value v c ≡ true
assumed-true v [] k c model is = cc
assumed-true v (a ∷ assumed) zero c model is =
    let parts = and_parts (clause_value v a) (list_all (clause_value v) assumed) model in
    let e : a ≡ c = cc in subst (λ x. clause_value v x ≡ true) e parts.0
assumed-true v (a ∷ assumed) (suc k) c model is =
    let parts = and_parts (clause_value v a) (list_all (clause_value v) assumed) model in
    assumed-true v assumed k c parts.1 is

cited-true : (v : ℕ → Bool) (assumed : List (List Literal)) (derived : List (Option (List Literal))) → DerivedFollow assumed derived → IsModel v assumed
    → (h : Premise) (c : List Literal) → cited assumed derived h ≡ Some c → clause_value v c ≡ true
cited-true v assumed derived follow model (Assumed k) c is = assumed-true v assumed k c model is
cited-true v assumed derived follow model (Derived k) c is = follow k c is v model

pub implied-follows : (d : Derivation) (clause : List Literal) (hints : List Premise) → DerivedFollow d.assumed d.derived
    → IsTrue (is_implied_along d clause hints) → IsImplied d.assumed clause
implied-follows d clause hints follow implied v model = ⊎_elim
    (λ yes. yes)
    (λ no. absurd (both_ways _ (no-conflict v (cited d.assumed d.derived) (cited-true v d.assumed d.derived follow model)
    (denied (replicate d.variables Unknown) clause) hints
    (agrees-denied v (replicate d.variables Unknown) clause no (agrees-none v d.variables))) implied))
    (cases_Bool (clause_value v clause))

-- ---- what grows

pub follows-more : (assumed : List (List Literal)) (new clause : List Literal) → IsImplied assumed clause → IsImplied (assumed ++ new ∷ []) clause
follows-more assumed new clause follows v model =
    let both = list_all-append (clause_value v) assumed (new ∷ []) in
    follows v ((and_parts _ _ (sym both ∙ model)).0)

-- Equations as clauses, and what a prover assumes.
use Rattle.std.specs.Prelude.{map}
use Rattle.std.proofs.Common.{◌≡◌, ℕ, suc, Bool, true, false, not, ◌&&◌, ◌||◌, List, [], ◌∷◌, ◌++◌, refl, sym, ap, ◌∙◌, subst, arith, inl, inr}
use Rattle.std.proofs.lemmas.List.{get_or_append_left, length_push}
use Rattle.std.proofs.lemmas.List.Elements.{All-push}
use Rattle.net_follow.specs.declared.literals.Side.{Side}
use Rattle.net_follow.specs.declared.literals.Equation.{Equation}
use Rattle.net_follow.specs.declared.literals.Clause.{Clause}
use Rattle.net_follow.specs.declared.proving.Prover.{Prover}
use Rattle.net_follow.specs.Literals.{IsSteady, holds, opposite, constant, MeetsAll, Meets, meets_clause, from_parts, to_left, to_right}
use Rattle.net_follow.specs.Coding.{coded_clause, valuation}
use Rattle.net_follow.specs.Proving.{Models, KeepsProof, Shown, Begins, Noted, Entails}
use Rattle.net_follow.proofs.Coded.{coded-value, opposite-value, model-more, opposites-twice}
use Rattle.sat_kernel.specs.Clauses.{IsImplied, IsModel, clause_value, opposite as kernel_opposite}
use Rattle.sat_kernel.specs.declared.literals.Literal as kernel

-- ---- the clauses of an equation

clause-parts : (o l r : Bool) → o ≡ (l && r) → (o || not l || not r) ≡ true
clause-parts true l r h = refl
clause-parts false false r h = refl
clause-parts false true false h = refl
clause-parts false true true h = cc

clause-left : (o l r : Bool) → o ≡ (l && r) → (not o || l || false) ≡ true
clause-left false l r h = refl
clause-left true true r h = refl
clause-left true false r h = cc

clause-right : (o l r : Bool) → o ≡ (l && r) → (not o || r || false) ≡ true
clause-right false l r h = refl
clause-right true l true h = refl
clause-right true true false h = cc
clause-right true false false h = cc

equation-from : (o l r : Bool) → (o || not l || not r) ≡ true → (not o || l || false) ≡ true → (not o || r || false) ≡ true → o ≡ (l && r)
equation-from true true true a b c = refl
equation-from true true false a b c = sym c
equation-from true false r a b c = sym b
equation-from false true true a b c = a
equation-from false true false a b c = refl
equation-from false false r a b c = refl

or-same : (a b c x y z : Bool) → a ≡ x → b ≡ y → c ≡ z → (a || b || c) ≡ (x || y || z)
or-same a b c x y z p q r = λ i. p i || q i || r i

false-holds : (V : Bool → Side → ℕ → Bool) → IsSteady V → holds V (constant false) ≡ false
false-holds V steady = ap not (steady false 0)

pub parts-met : (V : Bool → Side → ℕ → Bool) (e : Equation) → Meets V e → meets_clause V (from_parts e) ≡ true
parts-met V e meets =
    or-same (holds V e.out) (holds V (opposite e.left)) (holds V (opposite e.right)) (holds V e.out) (not (holds V e.left)) (not (holds V e.right))
    refl (opposite-value V e.left) (opposite-value V e.right) ∙ clause-parts (holds V e.out) (holds V e.left) (holds V e.right) meets

pub left-met : (V : Bool → Side → ℕ → Bool) (e : Equation) → IsSteady V → Meets V e → meets_clause V (to_left e) ≡ true
left-met V e steady meets =
    or-same (holds V (opposite e.out)) (holds V e.left) (holds V (constant false)) (not (holds V e.out)) (holds V e.left) false
    (opposite-value V e.out) refl (false-holds V steady) ∙ clause-left (holds V e.out) (holds V e.left) (holds V e.right) meets

pub right-met : (V : Bool → Side → ℕ → Bool) (e : Equation) → IsSteady V → Meets V e → meets_clause V (to_right e) ≡ true
right-met V e steady meets =
    or-same (holds V (opposite e.out)) (holds V e.right) (holds V (constant false)) (not (holds V e.out)) (holds V e.right) false
    (opposite-value V e.out) refl (false-holds V steady) ∙ clause-right (holds V e.out) (holds V e.left) (holds V e.right) meets

pub met-from : (V : Bool → Side → ℕ → Bool) (e : Equation) → IsSteady V → meets_clause V (from_parts e) ≡ true → meets_clause V (to_left e) ≡ true
    → meets_clause V (to_right e) ≡ true → Meets V e
met-from V e steady a b c =
    equation-from (holds V e.out) (holds V e.left) (holds V e.right)
    (sym (or-same (holds V e.out) (holds V (opposite e.left)) (holds V (opposite e.right)) (holds V e.out) (not (holds V e.left)) (not (holds V e.right))
    refl (opposite-value V e.left) (opposite-value V e.right)) ∙ a)
    (sym (or-same (holds V (opposite e.out)) (holds V e.left) (holds V (constant false)) (not (holds V e.out)) (holds V e.left) false
    (opposite-value V e.out) refl (false-holds V steady)) ∙ b)
    (sym (or-same (holds V (opposite e.out)) (holds V e.right) (holds V (constant false)) (not (holds V e.out)) (holds V e.right) false
    (opposite-value V e.out) refl (false-holds V steady)) ∙ c)

-- ---- provers

pub keeps-twice : (One Other Given : (Bool → Side → ℕ → Bool) → Type 0) (old mid new : Prover)
    → ((V : Bool → Side → ℕ → Bool) → IsSteady V → Given V → One V) → ((V : Bool → Side → ℕ → Bool) → IsSteady V → Given V → Other V)
    → KeepsProof One old mid → KeepsProof Other mid new → KeepsProof Given old new
keeps-twice One Other Given old mid new one other a b = record {
  stays = λ V given models. b.stays V (other V models.steady given) (a.stays V (one V models.steady given) models);
}

-- what is assumed stays
pub models-same : (V : Bool → Side → ℕ → Bool) (old new : Prover) → new.kernel.assumed ≡ old.kernel.assumed → Models V old → Models V new
models-same V old new same m = record { steady = m.steady; meets = subst (IsModel (valuation V)) (sym same) m.meets }

pub keeps-same : (Given : (Bool → Side → ℕ → Bool) → Type 0) (old new : Prover) → new.kernel.assumed ≡ old.kernel.assumed → KeepsProof Given old new
keeps-same Given old new same = record { stays = λ V given models. models-same V old new same models }

-- a clause is added
pub keeps-added : (c : Clause) (literals : List kernel.Literal) (old new : Prover) → literals ≡ coded_clause c
    → new.kernel.assumed ≡ old.kernel.assumed ++ literals ∷ [] → KeepsProof (λ V. meets_clause V c ≡ true) old new
keeps-added c literals old new is grown = record {
  stays = λ V given models. record {
    steady = models.steady;
    meets = subst (IsModel (valuation V)) (sym grown) (model-more (valuation V) old.kernel.assumed literals models.meets
        (ap (clause_value (valuation V)) is ∙ coded-value V c models.steady ∙ given));
  };
}

-- the three clauses of an equation are added
pub keeps-equation : (e : Equation) (p q r : Clause) (old one two new : Prover) → p ≡ from_parts e → q ≡ to_left e → r ≡ to_right e
    → KeepsProof (λ V. meets_clause V p ≡ true) old one → KeepsProof (λ V. meets_clause V q ≡ true) one two → KeepsProof (λ V. meets_clause V r ≡ true) two new
    → KeepsProof (λ V. Meets V e) old new
keeps-equation e p q r old one two new p_is q_is r_is a b c = record {
  stays = λ V meets models.
      let steady = models.steady in
      let first = a.stays V (ap (meets_clause V) p_is ∙ parts-met V e meets) models in
      let second = b.stays V (ap (meets_clause V) q_is ∙ left-met V e steady meets) first in
      c.stays V (ap (meets_clause V) r_is ∙ right-met V e steady meets) second;
}

false-shown : (P : Type 0) → false ≡ true → P
false-shown P h = cc

pub shown-not : (Claim : (Bool → Side → ℕ → Bool) → Type 0) (old new : Prover) → Shown Claim old new false
shown-not Claim old new = record {
  stays = λ h V models. false-shown (Models V new) h;
  claims = λ h V models. false-shown (Claim V) h;
}

-- a clause that is always true
pub shown-always : (c : Clause) (p : Prover) → ((V : Bool → Side → ℕ → Bool) → IsSteady V → meets_clause V c ≡ true)
    → Shown (λ V. meets_clause V c ≡ true) p p true
shown-always c p always = record { stays = λ h V models. models; claims = λ h V models. always V models.steady }

-- a clause whose denial is refuted
pub shown-refuted : (c : Clause) (literals denial : List kernel.Literal) (old new : Prover) (shown : Bool) → literals ≡ coded_clause c
    → denial ≡ map kernel_opposite literals → new.kernel.assumed ≡ old.kernel.assumed
    → (shown ≡ true → IsImplied new.kernel.assumed (map kernel_opposite denial)) → Shown (λ V. meets_clause V c ≡ true) old new shown
shown-refuted c literals denial old new shown is denied same follows = record {
  stays = λ h V models. models-same V old new same models;
  claims = λ h V models.
      let model = (models-same V old new same models).meets in
      let twice : map kernel_opposite denial ≡ coded_clause c = ap (map kernel_opposite) denied ∙ opposites-twice literals ∙ is in
      sym (coded-value V c models.steady) ∙ ap (clause_value (valuation V)) (sym twice) ∙ follows h (valuation V) model;
}

-- the three clauses of an equation are shown
pub shown-equation : (e : Equation) (p q r : Clause) (old one two new : Prover) (shown : Bool) → p ≡ from_parts e → q ≡ to_left e → r ≡ to_right e
    → Shown (λ V. meets_clause V p ≡ true) old one true → Shown (λ V. meets_clause V q ≡ true) one two true
    → Shown (λ V. meets_clause V r ≡ true) two new shown → Shown (λ V. Meets V e) old new shown
shown-equation e p q r old one two new shown p_is q_is r_is a b c = record {
  stays = λ h V models. c.stays h V (b.stays refl V (a.stays refl V models));
  claims = λ h V models.
      let first = a.stays refl V models in
      let second = b.stays refl V first in
      met-from V e models.steady (sym (ap (meets_clause V) p_is) ∙ a.claims refl V models) (sym (ap (meets_clause V) q_is) ∙ b.claims refl V first)
      (sym (ap (meets_clause V) r_is) ∙ c.claims h V second);
}

-- more of the equations are claimed
pub record Claimed (claims : List Equation) (failing : List ℕ) (old new : Prover) : Type 0 where
  pub stays : failing ≡ [] → (V : Bool → Side → ℕ → Bool) → Models V old → Models V new
  pub meets : failing ≡ [] → (V : Bool → Side → ℕ → Bool) → Models V old → MeetsAll V claims

nothing-behind : (xs : List ℕ) (x : ℕ) → xs ++ x ∷ [] ≡ [] → ⊥
nothing-behind [] x h = cc
nothing-behind (y ∷ ys) x h = cc

pub claimed-none : (p : Prover) → Claimed [] [] p p
claimed-none p = record { stays = λ h V models. models; meets = λ h V models k d low. absurd (omega arith) }

pub claimed-shown : (done more : List Equation) (e : Equation) (failing : List ℕ) (old mid new : Prover) → more ≡ done ++ e ∷ []
    → Claimed done failing old mid → Shown (λ V. Meets V e) mid new true → Claimed more failing old new
claimed-shown done more e failing old mid new is a b = record {
  stays = λ h V models. b.stays refl V (a.stays h V models);
  meets = λ h V models. subst (MeetsAll V) (sym is) (All-push (λ (x : Equation). Meets V x) done e (a.meets h V models)
      (b.claims refl V (a.stays h V models)));
}

pub claimed-failing : (done more : List Equation) (failing more_failing : List ℕ) (k : ℕ) (old new : Prover) → more_failing ≡ failing ++ k ∷ []
    → Claimed more more_failing old new
claimed-failing done more failing more_failing k old new is = record {
  stays = λ h. absurd (nothing-behind failing k (sym is ∙ h));
  meets = λ h. absurd (nothing-behind failing k (sym is ∙ h));
}

pub entails-claimed : (assumed claims : List Equation) (failing : List ℕ) (old new : Prover) → Begins assumed old → Claimed claims failing old new
    → failing ≡ [] → Entails assumed claims
entails-claimed assumed claims failing old new begins claimed none = record {
  entails = λ V steady all. claimed.meets none V (begins.models V steady all);
}

pub begins-none : (p : Prover) → p.kernel.assumed ≡ [] → Begins [] p
begins-none p none = record {
  models = λ V steady all. record {
    steady = steady;
    meets = subst (IsModel (valuation V)) (sym none) refl;
  };
}

pub begins-more : (done more : List Equation) (e : Equation) (old new : Prover) → more ≡ done ++ e ∷ [] → Begins done old
    → KeepsProof (λ V. Meets V e) old new → Begins more new
begins-more done more e old new is begins keeps = record {
  models = λ V steady all.
      let both : MeetsAll V (done ++ e ∷ []) = subst (MeetsAll V) is all in
      keeps.stays V (last-of V done e both) (begins.models V steady (front-of V done e both));
}
  where
    last-of : (V : Bool → Side → ℕ → Bool) (done : List Equation) (e : Equation) → MeetsAll V (done ++ e ∷ []) → Meets V e
    last-of V [] e all = all 0 e (omega arith)
    last-of V (x ∷ xs) e all = last-of V xs e (λ k d low. all (suc k) d (omega arith))

    front-of : (V : Bool → Side → ℕ → Bool) (done : List Equation) (e : Equation) → MeetsAll V (done ++ e ∷ []) → MeetsAll V done
    front-of V done e all = λ k d low.
        subst (λ (x : Equation). Meets V x) (get_or_append_left done (e ∷ []) d k low) (all k d (omega (arith, length_push done e)))

-- one more claim, which is shown, or whose place is noted
pub claimed-next : (done more : List Equation) (e : Equation) (k : ℕ) (failing after : List ℕ) (old mid new : Prover) → more ≡ done ++ e ∷ []
    → Claimed done failing old mid → Noted e k failing after mid new → Claimed more after old new
claimed-next done more e k failing after old mid new is claimed noted = elim noted.noted [
  | inl p ↦ claimed-failing done more failing after k old new p
  | inr q ↦ subst (λ places. Claimed more places old new) (sym q.0) (claimed-shown done more e failing old mid new is claimed q.1)
]

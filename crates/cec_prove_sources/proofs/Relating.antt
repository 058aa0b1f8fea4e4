-- Where an event meets relations, the values of an instant with these inputs meet their clauses.
use Rattle.std.proofs.Common.{◌≡◌, ◌≢◌, ◌<◌, ℕ, suc, ◌==◌, Bool, true, false, not, ◌&&◌, ◌||◌, List, [], ◌∷◌, length, refl, sym, ◌∙◌}
use Rattle.std.proofs.Common.{subst, arith}
use Rattle.std.specs.Prelude.{All, Contains, if◌then◌else◌, nat_le, slice_index_or}
use Rattle.std.specs.List.{flat_map}
use Rattle.std.proofs.lemmas.Bool.{eqb-false}
use Rattle.base_types.specs.Relations.{Relation, Implies, Excludes, Meets, MeetsAll}
use Rattle.est_kernel.specs.WellFormed.{RelatesGiven}
use Rattle.sat_kernel.specs.Clauses.{IsModel}
use Rattle.net_never.specs.GateClauses.{signed}
use Rattle.net_never.proofs.Exports.{model-both}
use Rattle.base_facts.proofs.Lists.{contains-later}
use Rattle.cec_prove_sources.specs.RelationClauses.{all_relation_clauses, exclusion, exclusions, few_exclusions, relation_clauses}

implied : (a b : Bool) → (a ≡ true → b ≡ true) → ((not a || (b || false)) && true) ≡ true
implied true true h = refl
implied true false h = h refl
implied false true h = refl
implied false false h = refl

apart : (a b : Bool) → (a ≡ true → b ≡ true → ⊥) → ((not a || (not b || false)) && true) ≡ true
apart true true h = absurd (h refl refl)
apart true false h = refl
apart false true h = refl
apart false false h = refl

-- of two signals of a list at most one is true
abbrev Apart : (ℕ → Bool) → List ℕ → Type 0
Apart v signals = (a b : ℕ) → Contains signals a → Contains signals b → a ≢ b → v a ≡ true → v b ≡ true → ⊥

contains-here : (x : ℕ) (xs : List ℕ) → Contains (x ∷ xs) x
contains-here x xs = (0, omega arith, refl)

within : (given : ℕ) (signals : List ℕ) → All (λ s. s < given) signals → (a : ℕ) → Contains signals a → a < given
within given signals fits a c = subst (λ n. n < given) c.2 (fits c.0 a c.1)

one-exclusion : (v : ℕ → Bool) (s t : ℕ) → (s ≢ t → v s ≡ true → v t ≡ true → ⊥) → IsModel v (exclusion s t)
one-exclusion v s t h = elim (s == t) as (λ b. s == t ≡ b → IsModel v (if b then [] else (signed s false ∷ signed t false ∷ []) ∷ [])) [
  | true ↦ λ e. refl
  | false ↦ λ e. apart (v s) (v t) (h (eqb-false s t e))
] refl

all-exclusions : (v : ℕ → Bool) (s : ℕ) (signals : List ℕ) → ((t : ℕ) → Contains signals t → s ≢ t → v s ≡ true → v t ≡ true → ⊥)
    → IsModel v (flat_map (exclusion s) signals)
all-exclusions v s [] h = refl
all-exclusions v s (t ∷ ts) h =
    model-both v (exclusion s t) (flat_map (exclusion s) ts) (one-exclusion v s t (h t (contains-here t ts)))
    (all-exclusions v s ts (λ u c. h u (contains-later t u ts c)))

exclusions-met : (v : ℕ → Bool) (signals : List ℕ) → Apart v signals → IsModel v (exclusions signals)
exclusions-met v [] h = refl
exclusions-met v (s ∷ ss) h =
    model-both v (flat_map (exclusion s) ss) (exclusions ss)
    (all-exclusions v s ss (λ t c. h s t (contains-here s ss) (contains-later s t ss c)))
    (exclusions-met v ss (λ a b c d. h a b (contains-later s a ss c) (contains-later s b ss d)))

few-met : (v : ℕ → Bool) (signals : List ℕ) → Apart v signals → IsModel v (few_exclusions signals)
few-met v signals h = by_count (nat_le (length signals) 512)
  where
    by_count : (b : Bool) → IsModel v (if b then exclusions signals else [])
    by_count true = exclusions-met v signals h
    by_count false = refl

-- a valuation that has the values of an event at the given signals
abbrev pub IsOver : (ℕ → Bool) → List Bool → ℕ → Type 0
IsOver v event given = (n : ℕ) → n < given → v n ≡ slice_index_or event n false

one-met : (v : ℕ → Bool) (event : List Bool) (given : ℕ) → IsOver v event given → (r : Relation) → RelatesGiven given r → Meets event r
    → IsModel v (relation_clauses r)
one-met v event given over (Implies a b) fits meets =
    implied (v a) (v b) (λ e. over b fits.1 ∙ meets (sym (over a fits.0) ∙ e))
one-met v event given over (Excludes signals) fits meets =
    few-met v signals (λ a b ca cb ne ea eb.
    meets a b ca cb ne (sym (over a (within given signals fits a ca)) ∙ ea) (sym (over b (within given signals fits b cb)) ∙ eb))

pub relations-met : (v : ℕ → Bool) (event : List Bool) (given : ℕ) → IsOver v event given → (relations : List Relation) → All (RelatesGiven given) relations
    → MeetsAll relations event → IsModel v (all_relation_clauses relations)
relations-met v event given over [] fits meets = refl
relations-met v event given over (r ∷ rs) fits meets =
    model-both v (relation_clauses r) (all_relation_clauses rs)
    (one-met v event given over r (fits 0 r (omega arith)) (meets 0 r (omega arith)))
    (relations-met v event given over rs (λ k d h. fits (suc k) d (omega arith)) (λ k d h. meets (suc k) d (omega arith)))

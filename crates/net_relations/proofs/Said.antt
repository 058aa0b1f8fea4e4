-- What relations say of inputs.
use Rattle.std.proofs.Common.{◌≡◌, ◌≢◌, ◌<◌, ℕ, Bool, true, false, not, List, length, map, get_or, refl, sym, ap, ◌∙◌, subst, arith}
use Rattle.std.proofs.Common.{All, Contains, ⊎_elim, inl, inr}
use Rattle.std.proofs.lemmas.List.{get_or_default, get_or-map, length-map}
use Rattle.std.proofs.lemmas.List.Elements.{All-contains}
use Rattle.base_types.specs.declared.indices.SigId.{SigId}
use Rattle.base_types.specs.declared.interface.InputRelation.{InputRelation}
use Rattle.base_types.specs.Relations.{Excludes, Implies, Meets, relation_of}
use Rattle.net_ir.specs.Gates.{value_in}
use Rattle.net_relations.specs.Implications.{AddsOnly, IsBelow, IsKept, IsSaid}
use Rattle.net_relations.specs.declared.implications.Implication.{Implication}

-- ---- lists that grow

pub adds-nothing : (P : Implication → Type 0) (list : List Implication) → AddsOnly P list list
adds-nothing P list = λ i has. inl has

pub adds-more : (P Q : Implication → Type 0) (a b c : List Implication) → AddsOnly P a b → AddsOnly Q b c → ((i : Implication) → Q i → P i) → AddsOnly P a c
adds-more P Q a b c first next weaker = λ i has. ⊎_elim (first i) (λ q. inr (weaker i q)) (next i has)

-- ---- what is said

abbrev pub said : (a b : ℕ) (negated : Bool) → Implication
said a b negated = record {
  cause = record { net = record { 0 = a }; negated = false };
  effect = record { net = record { 0 = b }; negated = negated };
}

pub said-implies : (inputs : ℕ) (a b : SigId) (i : Implication) → i ≡ said a.0 b.0 false → IsBelow inputs i → IsSaid inputs (Implies a.0 b.0) i
said-implies inputs a b i is below = record {
  below = below;
  holds = λ event meets. rw is meets;
}

absent : (x : Bool) → (x ≡ true → ⊥) → not x ≡ true
absent true h = absurd (h refl)
absent false h = refl

contains-number : (signals : List SigId) (k : ℕ) (d : SigId) → k < length signals
    → Contains (map (λ s. s.0) signals) (get_or signals k d).0
contains-number signals k d h =
    (k, omega (arith, length-map signals (λ (s : SigId). s.0)), get_or-map (λ (s : SigId). s.0) signals k d (get_or signals k d).0 h)

pub said-apart : (inputs : ℕ) (signals : List SigId) (j k : ℕ) (d : SigId) (i : Implication) → j < length signals → k < length signals
    → ((get_or signals j d).0 ≢ (get_or signals k d).0)
    → i ≡ said (get_or signals j d).0 (get_or signals k d).0 true → IsBelow inputs i
    → IsSaid inputs (Excludes (map (λ s. s.0) signals)) i
said-apart inputs signals j k d i low high differ is below = record {
  below = below;
  holds = λ event meets. rw is (λ present.
      absent (value_in event (get_or signals k d).0) (λ also.
      meets (get_or signals j d).0 (get_or signals k d).0 (contains-number signals j d low) (contains-number signals k d high) differ present also));
}

-- ---- what all relations say

pub kept-more : (relations : List InputRelation) (inputs k : ℕ) (r : InputRelation) (old new : List Implication) → k < length relations
    → r ≡ get_or relations k r → All (IsKept (map relation_of relations) inputs) old → AddsOnly (IsSaid inputs (relation_of r)) old new
    → All (IsKept (map relation_of relations) inputs) new
kept-more relations inputs k r old new low at all adds = λ n e h.
    ⊎_elim
    (λ has. All-contains (IsKept (map relation_of relations) inputs) old (get_or new n e) all has)
    (λ (is : IsSaid inputs (relation_of r) (get_or new n e)). record {
      below = is.below;
      holds = λ event meets. is.holds event (subst (Meets event) (get_or-map relation_of relations k r (relation_of r) low ∙ ap relation_of (sym at))
          (meets k (relation_of r) (omega (arith, length-map relations relation_of))));
    })
    (adds (get_or new n e) (n, h, get_or_default new n (get_or new n e) e h))

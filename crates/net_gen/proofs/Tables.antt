-- Tables of nets: what a new entry changes.
use Rattle.std.proofs.Common.{◌≡◌, ◌≢◌, ℕ, ◌+◌, ◌<◌, ◌≤◌, List, length, slice_index_or, slice_set, refl, sym, ap, ◌∙◌, subst, arith, Option, Some, None, ◌⊎◌}
use Rattle.std.proofs.Common.{inl, inr}
use Rattle.std.proofs.lemmas.Bool.{cases_lt}
use Rattle.std.proofs.lemmas.List.{get_or-set_same, get_or-set_other}
use Rattle.base_types.specs.declared.indices.NetId.{NetId}
use Rattle.grc_graph.specs.declared.graph.Graph.{Graph}
use Rattle.net_gen.specs.Drawings.{Drawing, Placed}
use Rattle.net_gen.specs.Senses.{Sense, Stands, Table}

pub same-or-other : (j k : ℕ) → (j ≡ k) ⊎ (j ≢ k)
same-or-other j k = elim (cases_lt j k) [
  | inl less ↦ inr (omega arith)
  | inr more ↦ elim (cases_lt k j) [ inl greater ↦ inr (omega arith) | inr most ↦ inl (omega arith) ]
]

pub table-set : (g : Graph) (d : Drawing) (entries : List (Option NetId)) (senses : ℕ → Sense g) (k : ℕ) (a : NetId) → Table g d entries senses
    → Stands g d a.0 (senses k) → k < length entries → Table g d (slice_set entries k (Some a)) senses
table-set g d entries senses k a table h low = λ j n e. elim (same-or-other j k) [
  | inl same ↦
      let noted : slice_index_or (slice_set entries k (Some a)) j None ≡ Some a =
      ap (λ i. slice_index_or (slice_set entries k (Some a)) i None) same ∙ get_or-set_same entries k (Some a) None low in
      let net : a ≡ n = cc in
      subst (λ (x : NetId). Stands g d x.0 (senses j)) net (subst (λ i. Stands g d a.0 (senses i)) (sym same) h)
  | inr ne ↦ table j n (sym (get_or-set_other entries k j (Some a) None ne) ∙ e)
]

pub placed-here : (entries : List (Option NetId)) (k : ℕ) (a : NetId) → k < length entries → Placed (slice_set entries k (Some a)) k
placed-here entries k a low = (a, get_or-set_same entries k (Some a) None low)

pub placed-set : (entries : List (Option NetId)) (j k : ℕ) (a : NetId) → k < length entries → Placed entries j → Placed (slice_set entries k (Some a)) j
placed-set entries j k a low p = elim (same-or-other j k) [
  | inl same ↦ subst (λ i. Placed (slice_set entries k (Some a)) i) (sym same) (placed-here entries k a low)
  | inr ne ↦ (p.0, get_or-set_other entries k j (Some a) None ne ∙ p.1)
]

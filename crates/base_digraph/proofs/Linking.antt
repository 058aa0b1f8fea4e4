-- The last edge into a node, one edge on.
use Rattle.std.proofs.Common.{◌≡◌, ◌≢◌, ℕ, ◌+◌, ◌-◌, ◌<◌, List, [], ◌∷◌, ◌++◌, length, slice_index, set, ap, sym, ◌∙◌, arith, ⊎_elim, get_or-set_same}
use Rattle.std.proofs.Common.{get_or-set_other}
use Rattle.std.proofs.lemmas.Bool.{cases_eq}
use Rattle.std.proofs.lemmas.List.{get_or_push, get_or_append_left}
use Rattle.base_digraph.specs.Searches.{edge_at, IsLastInto}

-- an edge is the last one into its own node
pub IsLastInto-here : (edges : List (ℕ × ℕ)) (k : ℕ) → IsLastInto edges (edge_at edges k).1 (k + 1) (k + 1)
IsLastInto-here edges k = record {
  within = omega arith;
  leads = λ h. let e : k + 1 - 1 ≡ k = omega arith in ap (λ j. (edge_at edges j).1) e;
  none_between = λ j low high. absurd (omega arith);
}

-- and no edge into another node
pub IsLastInto-other : (edges : List (ℕ × ℕ)) (node k last : ℕ) → node ≢ (edge_at edges k).1 → IsLastInto edges node k last → IsLastInto edges node (k + 1) last
IsLastInto-other edges node k last other before = record {
  within = omega (arith, before.within);
  leads = before.leads;
  none_between = λ j low high. λ e. ⊎_elim
      (λ (same : j ≡ k). other (sym e ∙ ap (λ i. (edge_at edges i).1) same))
      (λ (apart : j ≡ k → ⊥). before.none_between j low (omega arith) e)
      (cases_eq j k);
}

-- so one more edge changes what is last into its own node alone
pub IsLastInto-more : (edges : List (ℕ × ℕ)) (last : List ℕ) (k : ℕ) → (edge_at edges k).1 < length last →
    ((node : ℕ) → node < length last → IsLastInto edges node k (slice_index last node))
    → (node : ℕ) → node < length last → IsLastInto edges node (k + 1) (slice_index (set last (edge_at edges k).1 (k + 1)) node)
IsLastInto-more edges last k here before node low = ⊎_elim
    (λ (same : node ≡ (edge_at edges k).1).
    let at = get_or-set_same last (edge_at edges k).1 (k + 1) 0 here in
    rw (same, at) (IsLastInto-here edges k))
    (λ (apart : node ≡ (edge_at edges k).1 → ⊥).
    let at = get_or-set_other last (edge_at edges k).1 node (k + 1) 0 apart in
    rw at (IsLastInto-other edges node k _ apart (before node low)))
    (cases_eq node (edge_at edges k).1)

-- no edge is before the first
pub IsLastInto-none : (edges : List (ℕ × ℕ)) (node : ℕ) → IsLastInto edges node 0 0
IsLastInto-none edges node = record {
  within = omega arith;
  leads = λ h. absurd (omega arith);
  none_between = λ j low high. absurd (omega arith);
}

-- one more edge, with the last one before it into its node
pub AreEarlier-more : (edges : List (ℕ × ℕ)) (earlier : List ℕ) (k x : ℕ) → length earlier ≡ k → IsLastInto edges (edge_at edges k).1 k x →
    ((j : ℕ) → j < k → IsLastInto edges (edge_at edges j).1 j (slice_index earlier j))
    → (j : ℕ) → j < k + 1 → IsLastInto edges (edge_at edges j).1 j (slice_index (earlier ++ x ∷ []) j)
AreEarlier-more edges earlier k x len here before j low = ⊎_elim
    (λ (same : j ≡ k). let at : slice_index (earlier ++ x ∷ []) k ≡ x = get_or_push earlier x 0 k len in rw (same, at) here)
    (λ (apart : j ≡ k → ⊥).
    let below : j < length earlier = omega arith in
    let at : slice_index (earlier ++ x ∷ []) j ≡ slice_index earlier j = get_or_append_left earlier (x ∷ []) 0 j below in
    rw at (before j (omega arith)))
    (cases_eq j k)

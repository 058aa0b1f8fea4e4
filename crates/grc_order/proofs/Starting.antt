-- How many edges lead to each wire, and which wires wait for none, from one edge or wire to the next.
use Rattle.std.proofs.Common.{◌≡◌, ℕ, ◌+◌, ◌<◌, ◌≤◌, not, ◌==◌, cond, List, [], ◌∷◌, ◌++◌, length, slice_index, take, set, refl}
use Rattle.std.proofs.Common.{sym, ap, ◌∙◌, arith, All, inl, inr, get_or-set_same, get_or-set_other}
use Rattle.std.proofs.lemmas.Bool.{cases_eq, ne_eqb, eq-eqb}
use Rattle.std.proofs.lemmas.List.{length_push, length-take-le, get_or-take}
use Rattle.std.proofs.lemmas.List.Sums.{count_by_more_yes, count_by_more_no, count_by-le-length}
use Rattle.std.proofs.lemmas.List.Elements.{All-push}
use Rattle.base_types.specs.declared.indices.WireId.{WireId}
use Rattle.grc_graph.specs.WireOrders.{WireEdge, edge_at, times}
use Rattle.grc_graph.proofs.Exports.{place-of}
use Rattle.grc_order.specs.Schedules.{arrivals, IsReadyOf}
use Rattle.grc_order.proofs.Counts.{bit, times-push}

-- the edge at k is counted
pub arrivals-more : (pairs : List WireEdge) (counts : List ℕ) (k x : ℕ) → k < length pairs → (edge_at pairs k).1.0 < length counts
    → x ≡ slice_index counts (edge_at pairs k).1.0
    → (w : ℕ) → slice_index counts w ≡ arrivals (take k pairs) w → slice_index (set counts (edge_at pairs k).1.0 (x + 1)) w ≡ arrivals (take (k + 1) pairs) w
arrivals-more pairs counts k x low in_range at w was = elim (cases_eq w (edge_at pairs k).1.0) [
  | inl same ↦
      let more = count_by_more_yes (λ (d : WireEdge). d.1.0 == w) pairs k (record { 0 = 0 }, record { 0 = 0 }) low (eq-eqb _ w (sym same)) in
      let now = ap (λ v. slice_index (set counts (edge_at pairs k).1.0 (x + 1)) v) same ∙ get_or-set_same counts (edge_at pairs k).1.0 (x + 1) 0 in_range in
      let old = ap (slice_index counts) same in
      omega arith
  | inr apart ↦
      let more = count_by_more_no (λ (d : WireEdge). d.1.0 == w) pairs k (record { 0 = 0 }, record { 0 = 0 }) low (ne_eqb _ w (λ same. apart (sym same))) in
      omega (arith, get_or-set_other counts (edge_at pairs k).1.0 w (x + 1) 0 apart)
]

-- no count passes the number of edges
pub arrivals-bound : (pairs : List WireEdge) (k w : ℕ) → k ≤ length pairs → arrivals (take k pairs) w ≤ k
arrivals-bound pairs k w low = omega (arith, count_by-le-length (λ (d : WireEdge). d.1.0 == w) (take k pairs), length-take-le k pairs low)

times-below : (ready : List WireId) (k w : ℕ) → k ≤ w → All (λ v. v.0 < k) ready → times ready w ≡ 0
times-below ready k w over below = elim (cases_eq (times ready w) 0) [
  | inl none ↦ none
  | inr some ↦
      let place = place-of ready w (omega arith) in
      let low = below place.0 (record { 0 = 0 }) place.1 in
      absurd (omega (arith, place.2))
]

module _ (waiting : List ℕ) (ready : List WireId) (k : ℕ) (low : k < length waiting) (is_ready : IsReadyOf (take k waiting) ready) where
  longer : length (take (k + 1) waiting) ≡ k + 1
  longer = length-take-le (k + 1) waiting (omega arith)

  shorter : length (take k waiting) ≡ k
  shorter = length-take-le k waiting (omega arith)

  below : All (λ v. v.0 < k) ready
  below = λ j d h. let in_range = is_ready.in_range j d h in let e = shorter in omega arith

  once_below : (w : ℕ) → w < k → times ready w ≡ cond (slice_index (take (k + 1) waiting) w == 0) 1 0
  once_below w h =
      let e : slice_index (take (k + 1) waiting) w ≡ slice_index (take k waiting) w = get_or-take (k + 1) waiting w 0 (omega arith)
      ∙ sym (get_or-take k waiting w 0 h) in
      let len = shorter in
      rw e (is_ready.once w (omega arith))

  -- a wire that waits
  pub IsReadyOf-waits : (slice_index waiting k ≡ 0 → ⊥) → IsReadyOf (take (k + 1) waiting) ready
  IsReadyOf-waits some = record {
    in_range = λ j d h. let in_range = below j d h in let e = longer in omega arith;
    once = λ w h.
        let e = longer in
        elim (cases_eq w k) [
          | inl same ↦
              let here : slice_index (take (k + 1) waiting) w ≡ slice_index waiting k = get_or-take (k + 1) waiting w 0 (omega arith)
              ∙ ap (slice_index waiting) same in
              times-below ready k w (omega arith) below ∙ rw (here, ne_eqb _ 0 some) refl
          | inr apart ↦ once_below w (omega arith)
        ];
    total =
        let more = count_by_more_yes (λ n. not (n == 0)) waiting k 0 low (ap not (ne_eqb _ 0 some)) in
        omega (arith, is_ready.total, longer, shorter);
  }

  -- a wire that waits for none
  pub IsReadyOf-ready : (v : WireId) → v.0 ≡ k → slice_index waiting k ≡ 0 → IsReadyOf (take (k + 1) waiting) (ready ++ v ∷ [])
  IsReadyOf-ready v is none = record {
    in_range = All-push (λ (u : WireId). u.0 < length (take (k + 1) waiting)) ready v (λ j d h. let in_range = below j d h in let e = longer in omega arith)
        (let e = longer in omega arith);
    once = λ w h.
        let e = longer in
        let more = times-push ready v w in
        elim (cases_eq w k) [
          | inl same ↦
              let here : slice_index (take (k + 1) waiting) w ≡ slice_index waiting k = get_or-take (k + 1) waiting w 0 (omega arith)
              ∙ ap (slice_index waiting) same in
              let one : bit (v.0 == w) ≡ 1 = rw (eq-eqb v.0 w (is ∙ sym same)) refl in
              let all : bit (slice_index (take (k + 1) waiting) w == 0) ≡ 1 = rw (here, eq-eqb _ 0 none) refl in
              omega (arith, times-below ready k w (omega arith) below)
          | inr apart ↦
              let zero_here : bit (v.0 == w) ≡ 0 = rw (ne_eqb v.0 w (λ same. apart (sym same ∙ is))) refl in
              omega (arith, once_below w (omega arith))
        ];
    total =
        let more = count_by_more_no (λ n. not (n == 0)) waiting k 0 low (ap not (eq-eqb _ 0 none)) in
        omega (arith, is_ready.total, longer, shorter, length_push ready v);
  }

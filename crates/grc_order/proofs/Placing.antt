-- How a schedule begins, goes on and ends.
use Rattle.std.proofs.Common.{◌≡◌, ℕ, ◌+◌, ◌<◌, ◌≤◌, zero, suc, true, false, not, ◌==◌, List, [], ◌∷◌, ◌++◌, length}
use Rattle.std.proofs.Common.{slice_index, get_or, count_by, set, refl, sym, ap, ◌∙◌, arith, inl, inr, get_or-set_same}
use Rattle.std.proofs.Common.{get_or-set_other}
use Rattle.std.specs.List.{swap_remove}
use Rattle.std.specs.List.Sorted.{IsPermutation}
use Rattle.std.proofs.lemmas.Bool.{cases_eq, cases_lt, ne_eqb, eq-eqb, cases_Bool}
use Rattle.std.proofs.lemmas.List.{length-set, length_push, get_or_append_left, get_or_push, get_or_default, nil_from_length}
use Rattle.std.proofs.lemmas.List.Sums.{sum_by-set, sum_by-swap_remove, sum_by-le, get_or-le-sum_by}
use Rattle.std.proofs.lemmas.List.Elements.{All-push, All-tail}
use Rattle.std.proofs.lemmas.List.Sorted.{IsPermutation-swap_remove, All-permutation, length_permutation, sum_by-IsPermutation}
use Rattle.base_facts.proofs.Lists.{count_by-no, count_by-yes}
use Rattle.base_facts.proofs.Tests.{and-true}
use Rattle.base_types.specs.declared.indices.WireId.{WireId}
use Rattle.grc_graph.specs.WireOrders.{WireEdge, wire_at, edge_at, times, AreEdges, AreRanks, IsWireOrder}
use Rattle.grc_order.specs.Schedules.{holds_back, edges_from, arrivals, IsAlong, IsSchedule, IsReadyOf}
use Rattle.grc_order.proofs.Counts.{bit, times-push, holds_back-split, times-place, holder, unheld}

-- no wire is placed: a wire waits for every edge to it
pub IsSchedule-start : (count : ℕ) (pairs : List WireEdge) (waiting : List ℕ) (ready : List WireId) → length waiting ≡ count
    → ((w : ℕ) → w < count → slice_index waiting w ≡ arrivals pairs w) → IsReadyOf waiting ready → IsSchedule count pairs [] waiting ready []
IsSchedule-start count pairs waiting ready len counts is_ready = record {
  each_wire = len;
  ready_in = λ k d h. let low = is_ready.in_range k d h in omega arith;
  placed_in = λ k d h. absurd (omega arith);
  waits = λ w h.
      let all : count_by (holds_back [] w) pairs ≡ arrivals pairs w = λ i. count_by (λ (e : WireEdge). and-true (e.1.0 == w) i) pairs in
      omega (arith, counts w h, all);
  once = λ w h. omega (arith, is_ready.once w (omega arith));
  total = omega (arith, is_ready.total);
  along = λ k i j h low high. absurd (omega arith);
}

-- One more edge that is taken off: the wire to which it leads waits for one edge less.
module _ (count : ℕ) (pairs : List WireEdge) (e : WireEdge) (further : List WireEdge) (waiting : List ℕ) (ready placed : List WireId)
    (schedule : IsSchedule count pairs (e ∷ further) waiting ready placed) (low : e.1.0 < count) where
  pub waits-some : 0 < slice_index waiting e.1.0
  waits-some =
      let more = count_by-yes (λ (d : WireEdge). d.1.0 == e.1.0) e further (eq-eqb e.1.0 e.1.0 refl) in
      omega (arith, schedule.waits e.1.0 low)

  waits_zero : slice_index waiting e.1.0 == 0 ≡ false
  waits_zero = let some = waits-some in ne_eqb _ 0 (omega arith)

  module _ (left : ℕ) (less : left + 1 ≡ slice_index waiting e.1.0) where
    at_wire : (w : ℕ) → w ≡ e.1.0 → slice_index (set waiting e.1.0 left) w ≡ left
    at_wire w same = ap (λ v. slice_index (set waiting e.1.0 left) v) same ∙ get_or-set_same waiting e.1.0 left 0 (omega (arith, schedule.each_wire))

    waits_after : (w : ℕ) → w < count → slice_index (set waiting e.1.0 left) w ≡ count_by (holds_back placed w) pairs + arrivals further w
    waits_after w h = elim (cases_eq w e.1.0) [
      | inl same ↦
          let more = count_by-yes (λ (d : WireEdge). d.1.0 == w) e further (eq-eqb e.1.0 w (sym same)) in
          let was = ap (slice_index waiting) same in
          omega (arith, schedule.waits w h, at_wire w same)
      | inr apart ↦
          let more = count_by-no (λ (d : WireEdge). d.1.0 == w) e further (ne_eqb e.1.0 w (λ same. apart (sym same))) in
          omega (arith, schedule.waits w h, get_or-set_other waiting e.1.0 w left 0 apart)
    ]

    counts_after : count_by (λ n. not (n == 0)) (set waiting e.1.0 left) + 1 ≡ count_by (λ n. not (n == 0)) waiting + bit (not (left == 0))
    counts_after =
        let change = sum_by-set (λ n. bit (not (n == 0))) waiting e.1.0 left 0 (omega (arith, schedule.each_wire)) in
        let one : bit (not (slice_index waiting e.1.0 == 0)) ≡ 1 = rw waits_zero refl in
        omega (arith, change, one)

    once_other : (w : ℕ) → w < count → (w ≡ e.1.0 → ⊥) → times placed w + times ready w ≡ bit (slice_index (set waiting e.1.0 left) w == 0)
    once_other w h apart = rw (get_or-set_other waiting e.1.0 w left 0 apart) (schedule.once w h)

    none_here : (w : ℕ) → w ≡ e.1.0 → times placed w + times ready w ≡ 0
    none_here w same =
        let was = schedule.once e.1.0 low in
        rw same (was ∙ rw waits_zero refl)

    -- and goes on waiting
    pub IsSchedule-waits : (left ≡ 0 → ⊥) → IsSchedule count pairs further (set waiting e.1.0 left) ready placed
    IsSchedule-waits some =
        let tests = ne_eqb left 0 some in
        record {
          each_wire = length-set waiting e.1.0 left ∙ schedule.each_wire;
          ready_in = schedule.ready_in;
          placed_in = schedule.placed_in;
          waits = waits_after;
          once = λ w h. elim (cases_eq w e.1.0) [
            | inl same ↦ none_here w same ∙ rw (at_wire w same, tests) refl
            | inr apart ↦ once_other w h apart
          ];
          total = let one : bit (not (left == 0)) ≡ 1 = rw tests refl in omega (arith, counts_after, schedule.total);
          along = schedule.along;
        }

    -- or waits for none, and is ready
    pub IsSchedule-ready : left ≡ 0 → IsSchedule count pairs further (set waiting e.1.0 left) (ready ++ e.1 ∷ []) placed
    IsSchedule-ready none =
        let tests = eq-eqb left 0 none in
        record {
          each_wire = length-set waiting e.1.0 left ∙ schedule.each_wire;
          ready_in = All-push (λ (v : WireId). v.0 < count) ready e.1 schedule.ready_in low;
          placed_in = schedule.placed_in;
          waits = waits_after;
          once = λ w h. elim (cases_eq w e.1.0) [
            | inl same ↦
                let now : bit (e.1.0 == w) ≡ 1 = rw (eq-eqb e.1.0 w (sym same)) refl in
                let after : bit (slice_index (set waiting e.1.0 left) w == 0) ≡ 1 = rw (at_wire w same, tests) refl in
                omega (arith, times-push ready e.1 w, none_here w same, now, after)
            | inr apart ↦
                let now : bit (e.1.0 == w) ≡ 0 = rw (ne_eqb e.1.0 w (λ same. apart (sym same))) refl in
                omega (arith, times-push ready e.1 w, once_other w h apart, now)
          ];
          total = let one : bit (not (left == 0)) ≡ 0 = rw tests refl in omega (arith, counts_after, schedule.total, length_push ready e.1);
          along = schedule.along;
        }

-- The ready wires may stand in any order.
pub IsSchedule-mixed : (count : ℕ) (pairs further : List WireEdge) (waiting : List ℕ) (ready mixed placed : List WireId)
    → IsSchedule count pairs further waiting ready placed → IsPermutation ready mixed → IsSchedule count pairs further waiting mixed placed
IsSchedule-mixed count pairs further waiting ready mixed placed schedule moved = record {
  each_wire = schedule.each_wire;
  ready_in = All-permutation (λ (v : WireId). v.0 < count) ready mixed moved schedule.ready_in;
  placed_in = schedule.placed_in;
  waits = schedule.waits;
  once = λ w h. let same = sum_by-IsPermutation (λ (v : WireId). bit (v.0 == w)) ready mixed moved in omega (arith, schedule.once w h, same);
  total = omega (arith, schedule.total, length_permutation ready mixed moved);
  along = schedule.along;
}

-- A ready wire is placed. The edges from it are then still to be taken off.
module _ (count : ℕ) (pairs : List WireEdge) (waiting : List ℕ) (ready placed : List WireId) (schedule : IsSchedule count pairs [] waiting ready placed)
    (edges : AreEdges count pairs) (i : ℕ) (v : WireId) (i_low : i < length ready) (is : v ≡ get_or ready i v) where
  pub v_low : v.0 < count
  v_low = let h = schedule.ready_in i v i_low in let e = ap (λ (u : WireId). u.0) is in omega arith

  once_low : (w : ℕ) → w < count → times placed w + times ready w ≤ 1
  once_low w h = elim (cases_Bool (slice_index waiting w == 0)) [
    | inl none ↦ let one : bit (slice_index waiting w == 0) ≡ 1 = rw none refl in omega (arith, schedule.once w h)
    | inr some ↦ let none : bit (slice_index waiting w == 0) ≡ 0 = rw some refl in omega (arith, schedule.once w h)
  ]

  v_ready : 0 < times ready v.0
  v_ready =
      let some = get_or-le-sum_by (λ (u : WireId). bit (u.0 == v.0)) ready i v i_low in
      let here : bit ((get_or ready i v).0 == v.0) ≡ 1 = rw (sym is, eq-eqb v.0 v.0 refl) refl in
      omega arith

  free : times placed v.0 ≡ 0
  free = let some = v_ready in let one = once_low v.0 v_low in omega arith

  -- what stands in either list waits for none
  unheld_if : (w : ℕ) → w < count → 0 < times placed w + times ready w → count_by (holds_back placed w) pairs ≡ 0
  unheld_if w h some = elim (cases_eq (slice_index waiting w) 0) [
    | inl none ↦ omega (arith, schedule.waits w h)
    | inr more ↦ let none : bit (slice_index waiting w == 0) ≡ 0 = rw (ne_eqb _ 0 more) refl in absurd (omega (arith, schedule.once w h))
  ]

  moved : IsPermutation ready (v ∷ swap_remove ready i v)
  moved = IsPermutation-swap_remove ready i v i_low is

  -- a wire to which an edge leads from the placed wire is not placed
  no_edge : (k : ℕ) → k < length pairs → (edge_at pairs k).0.0 ≡ v.0 → 0 < times placed (edge_at pairs k).1.0 + times ready (edge_at pairs k).1.0 → ⊥
  no_edge k h from some =
      let low = (edges.join k (record { 0 = 0 }, record { 0 = 0 }) h).1 in
      let some_placed = unheld placed (edge_at pairs k).1.0 pairs k h refl (unheld_if _ low some) in
      let e = ap (times placed) from in
      let none = free in
      omega arith

  at_end : (j : ℕ) → j ≡ length placed → wire_at (placed ++ v ∷ []) j ≡ v.0
  at_end j e = ap (λ (u : WireId). u.0) (get_or_push placed v (record { 0 = 0 }) j (sym e))

  before_end : (j : ℕ) → j < length placed → wire_at (placed ++ v ∷ []) j ≡ wire_at placed j
  before_end j h = ap (λ (u : WireId). u.0) (get_or_append_left placed (v ∷ []) (record { 0 = 0 }) j h)

  target_some : (k j : ℕ) → j < length (placed ++ v ∷ []) → wire_at (placed ++ v ∷ []) j ≡ (edge_at pairs k).1.0
      → 0 < times placed (edge_at pairs k).1.0 + times ready (edge_at pairs k).1.0
  target_some k j h is_target = elim (cases_lt j (length placed)) [
    | inl less ↦
        let some = times-place placed j less in
        let e = ap (times placed) (sym (before_end j less) ∙ is_target) in
        omega arith
    | inr over ↦
        let last : j ≡ length placed = omega (arith, length_push placed v) in
        let e = ap (times ready) (sym (at_end j last) ∙ is_target) in
        let some = v_ready in
        omega arith
  ]

  along_after : IsAlong pairs (placed ++ v ∷ [])
  along_after k a j h a_low j_low is_source is_target = elim (cases_lt a (length placed)) [
    | inl less ↦ elim (cases_lt j (length placed)) [
      | inl j_less ↦ schedule.along k a j h less j_less (sym (before_end a less) ∙ is_source) (sym (before_end j j_less) ∙ is_target)
      | inr j_over ↦ omega arith
    ]
    | inr over ↦
        let last : a ≡ length placed = omega (arith, length_push placed v) in
        absurd (no_edge k h (sym is_source ∙ at_end a last) (target_some k j j_low is_target))
  ]

  pub IsSchedule-place : IsSchedule count pairs (edges_from v.0 pairs) waiting (swap_remove ready i v) (placed ++ v ∷ [])
  IsSchedule-place = record {
    each_wire = schedule.each_wire;
    ready_in = All-tail (λ (u : WireId). u.0 < count) v (swap_remove ready i v) (All-permutation (λ (u : WireId). u.0 < count) _ _ moved schedule.ready_in);
    placed_in = All-push (λ (u : WireId). u.0 < count) placed v schedule.placed_in v_low;
    waits = λ w h. omega (arith, schedule.waits w h, holds_back-split placed v w pairs free);
    once = λ w h.
        let less = sum_by-swap_remove (λ (u : WireId). bit (u.0 == w)) ready i v i_low in
        let here : bit ((get_or ready i v).0 == w) ≡ bit (v.0 == w) = rw (sym is) refl in
        omega (arith, schedule.once w h, times-push placed v w, less, here);
    total = omega (arith, schedule.total, length_permutation _ _ moved, length_push placed v);
    along = along_after;
  }

-- Where no wire is ready, all are placed: a wire that waits would wait for one of lower rank.
module _ (count : ℕ) (pairs : List WireEdge) (ranks waiting : List ℕ) (placed : List WireId) (schedule : IsSchedule count pairs [] waiting [] placed)
    (edges : AreEdges count pairs) (ranked : AreRanks count pairs ranks) where
  calm : (n w : ℕ) → w < count → slice_index ranks w < n → slice_index waiting w ≡ 0
  calm zero w h below = absurd (omega arith)
  calm (suc n) w h below = elim (cases_eq (slice_index waiting w) 0) [
    | inl none ↦ none
    | inr some ↦
        let held = holder placed w pairs (omega (arith, schedule.waits w h)) in
        let k = held.0 in
        let joins = edges.join k (record { 0 = 0 }, record { 0 = 0 }) held.1 in
        let rises = ranked.grow k (record { 0 = 0 }, record { 0 = 0 }) held.1 in
        let same = ap (slice_index ranks) held.2 in
        let calm_source = calm n (edge_at pairs k).0.0 joins.0 (omega arith) in
        let one : bit (slice_index waiting (edge_at pairs k).0.0 == 0) ≡ 1 = rw (eq-eqb _ 0 calm_source) refl in
        absurd (omega (arith, schedule.once (edge_at pairs k).0.0 joins.0, one, held.3))
  ]

  pub all_placed : length placed ≡ count
  all_placed =
      let fewer = sum_by-le (λ n. bit (not (n == 0))) 0 waiting (λ k d h.
      let e = get_or_default waiting k d 0 h in
      let none = calm (slice_index ranks k + 1) k (omega (arith, schedule.each_wire)) (omega arith) in
      rw (e, none) (omega arith)) in
      omega (arith, schedule.total, fewer)

-- Where as many wires are placed as there are, the placed ones are an order.
module _ (count : ℕ) (pairs : List WireEdge) (waiting : List ℕ) (ready placed : List WireId) (schedule : IsSchedule count pairs [] waiting ready placed)
    (full : length placed ≡ count) where
  none_ready : ready ≡ []
  none_ready = nil_from_length ready (omega (arith, schedule.total))

  waits_none : (w : ℕ) → w < count → slice_index waiting w == 0 ≡ true
  waits_none w h = elim (cases_Bool (slice_index waiting w == 0)) [
    | inl calm_here ↦ calm_here
    | inr some ↦
        let one : bit (not (slice_index waiting w == 0)) ≡ 1 = rw some refl in
        absurd (omega (arith, get_or-le-sum_by (λ n. bit (not (n == 0))) waiting w 0 (omega (arith, schedule.each_wire)), schedule.total, one))
  ]

  pub IsWireOrder-placed : IsWireOrder count pairs placed
  IsWireOrder-placed = record {
    each_place = full;
    in_range = schedule.placed_in;
    each_once = λ w h.
        let one : bit (slice_index waiting w == 0) ≡ 1 = rw (waits_none w h) refl in
        let none = ap (λ xs. times xs w) none_ready in
        omega (arith, schedule.once w h, one, none);
    along = schedule.along;
  }

-- so while wires are left to place, one is ready
pub some_ready : (count : ℕ) (pairs : List WireEdge) (ranks waiting : List ℕ) (ready placed : List WireId) → IsSchedule count pairs [] waiting ready placed
    → AreEdges count pairs → AreRanks count pairs ranks → length placed < count → 0 < length ready
some_ready count pairs ranks waiting [] placed schedule edges ranked left = absurd
    (omega (arith, all_placed count pairs ranks waiting placed schedule edges ranked))
some_ready count pairs ranks waiting (v ∷ ready) placed schedule edges ranked left = omega arith

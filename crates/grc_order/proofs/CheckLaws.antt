-- A list is checked wire by wire.
use Rattle.std.proofs.Common.{◌≡◌, ℕ, ◌+◌, ◌<◌, zero, suc, Bool, true, false, ◌==◌, cond, List, [], ◌∷◌, ◌++◌, length, slice_index_or, get_or}
use Rattle.std.proofs.Common.{take, count_by, set, refl, sym, ap, ◌∙◌, subst, arith, All, Contains, inl, inr, get_or-set_same, get_or-set_other}
use Rattle.std.proofs.lemmas.Bool.{cases_eq, cases_lt, cases_Bool, ne_eqb, eq-eqb, eqb-true, both_ways}
use Rattle.std.proofs.lemmas.List.{length-set, length_push, length-take-le, take_more, get_or-take, get_or_append_left, get_or_push, get_or_default}
use Rattle.std.proofs.lemmas.List.Sums.{count_by_more_yes, count_by-le-length, sum_by-set, sum_by-take-le}
use Rattle.std.proofs.lemmas.List.Elements.{All-head, All-tail, All-push, All-filter, All-contains_itself, filter_passes, at_from_Contains}
use Rattle.base_facts.proofs.Lists.{count_by-no, count_by-yes}
use Rattle.base_types.specs.declared.indices.WireId.{WireId}
use Rattle.grc_graph.specs.WireOrders.{WireEdge, wire_at, edge_at, times, AreEdges, IsWireOrder}
use Rattle.grc_graph.proofs.Exports.{place-of}
use Rattle.grc_order.specs.Schedules.{edges_from}
use Rattle.grc_order.specs.Checks.{LeadToMarked, IsChecked}
use Rattle.grc_order.proofs.Counts.{bit, times-push, times-place}

-- what holds of each edge from a wire
from_each : (P : WireEdge → Type 0) (v : ℕ) (pairs : List WireEdge) → All P (edges_from v pairs) → (k : ℕ) → k < length pairs → (edge_at pairs k).0.0 ≡ v
    → P (edge_at pairs k)
from_each P v [] all k low is = absurd (omega arith)
from_each P v (e ∷ es) all zero low is =
    let kept : edges_from v (e ∷ es) ≡ e ∷ edges_from v es = rw (eq-eqb e.0.0 v is) refl in
    All-head P e (edges_from v es) (subst (All P) kept all)
from_each P v (e ∷ es) all (suc k) low is = from_each P v es (from_rest (e.0.0 == v) all) k (omega arith) is
  where
    from_rest : (b : Bool) → All P (cond b (e ∷ edges_from v es) (edges_from v es)) → All P (edges_from v es)
    from_rest true h = All-tail P e (edges_from v es) h
    from_rest false h = h

-- an edge from a wire stands among the edges
place_from : (v : ℕ) (pairs : List WireEdge) (k : ℕ) → k < length (edges_from v pairs)
    → (j : ℕ) × (j < length pairs) × (edge_at pairs j ≡ edge_at (edges_from v pairs) k)
place_from v pairs k low =
    let among = All-filter (λ (e : WireEdge). e.0.0 == v) (Contains pairs) pairs (All-contains_itself pairs) k (record { 0 = 0 }, record { 0 = 0 }) low in
    let at = at_from_Contains pairs _ among in
    (at.0, at.1, at.2 (record { 0 = 0 }, record { 0 = 0 }))

from_begins : (v : ℕ) (pairs : List WireEdge) (k : ℕ) → k < length (edges_from v pairs) → (edge_at (edges_from v pairs) k).0.0 ≡ v
from_begins v pairs k low = eqb-true _ v (filter_passes (λ (e : WireEdge). e.0.0 == v) pairs k (record { 0 = 0 }, record { 0 = 0 }) low)

-- where none of these edges leads to a marked wire
pub unmarked_from : (edges : List WireEdge) (marks : List Bool) → (LeadToMarked edges marks → ⊥)
    → All (λ (e : WireEdge). slice_index_or marks e.1.0 false ≡ false) edges
unmarked_from edges marks none k d h =
    let e = ap (λ (x : WireEdge). slice_index_or marks x.1.0 false) (get_or_default edges k d (record { 0 = 0 }, record { 0 = 0 }) h) in
    e ∙ elim (cases_Bool (slice_index_or marks (edge_at edges k).1.0 false)) [
      | inl marked ↦ absurd (none (k, h, marked))
      | inr unmarked ↦ unmarked
    ]

-- nothing is seen, and nothing is marked
pub IsChecked-none : (count : ℕ) (pairs : List WireEdge) (marks : List Bool) → length marks ≡ count
    → ((k : ℕ) → k < length marks → slice_index_or marks k false ≡ false) → IsChecked count pairs [] marks
IsChecked-none count pairs marks len clear = record {
  each_wire = len;
  in_range = λ k d h. absurd (omega arith);
  once = λ w h. rw (clear w (omega arith)) refl;
  total = none_marked marks clear;
  along = λ k i j h low high. absurd (omega arith);
}
  where
    none_marked : (bs : List Bool) → ((k : ℕ) → k < length bs → slice_index_or bs k false ≡ false) → count_by (λ b. b) bs ≡ 0
    none_marked [] clear_here = refl
    none_marked (b ∷ bs) clear_here = count_by-no (λ c. c) b bs (clear_here 0 (omega arith)) ∙ none_marked bs (λ k h. clear_here (suc k) (omega arith))

-- one more wire, which is not marked yet
module _ (count : ℕ) (pairs : List WireEdge) (seen : List WireId) (marks : List Bool) (v : WireId) (checked : IsChecked count pairs seen marks)
    (low : v.0 < count) (unmarked : slice_index_or marks v.0 false ≡ false) where
  once_after : (w : ℕ) → w < count → times (seen ++ v ∷ []) w ≡ bit (slice_index_or (set marks v.0 true) w false)
  once_after w h = elim (cases_eq w v.0) [
    | inl same ↦
        let marked = ap (λ u. slice_index_or (set marks v.0 true) u false) same ∙ get_or-set_same marks v.0 true false (omega (arith, checked.each_wire)) in
        let before = ap (λ u. slice_index_or marks u false) same ∙ unmarked in
        let now : bit (slice_index_or (set marks v.0 true) w false) ≡ 1 = rw marked refl in
        let was : bit (slice_index_or marks w false) ≡ 0 = rw before refl in
        let here : bit (v.0 == w) ≡ 1 = rw (eq-eqb v.0 w (sym same)) refl in
        omega (arith, times-push seen v w, checked.once w h)
    | inr apart ↦
        let here : bit (v.0 == w) ≡ 0 = rw (ne_eqb v.0 w (λ same. apart (sym same))) refl in
        let stays = get_or-set_other marks v.0 w true false apart in
        let now : bit (slice_index_or (set marks v.0 true) w false) ≡ bit (slice_index_or marks w false) = rw stays refl in
        omega (arith, times-push seen v w, checked.once w h)
  ]

  -- what is seen is marked
  marked_after : (j : ℕ) → j < length (seen ++ v ∷ []) → wire_at (seen ++ v ∷ []) j < count
      → slice_index_or (set marks v.0 true) (wire_at (seen ++ v ∷ []) j) false ≡ true
  marked_after j h in_range = elim (cases_Bool (slice_index_or (set marks v.0 true) (wire_at (seen ++ v ∷ []) j) false)) [
    | inl yes_marked ↦ yes_marked
    | inr no_mark ↦
        let none : bit (slice_index_or (set marks v.0 true) (wire_at (seen ++ v ∷ []) j) false) ≡ 0 = rw no_mark refl in
        absurd (omega (arith, times-place (seen ++ v ∷ []) j h, once_after _ in_range))
  ]

  pub IsChecked-more : All (λ (e : WireEdge). slice_index_or (set marks v.0 true) e.1.0 false ≡ false) (edges_from v.0 pairs)
      → IsChecked count pairs (seen ++ v ∷ []) (set marks v.0 true)
  IsChecked-more free = record {
    each_wire = length-set marks v.0 true ∙ checked.each_wire;
    in_range = All-push (λ (u : WireId). u.0 < count) seen v checked.in_range low;
    once = once_after;
    total =
        let change = sum_by-set bit marks v.0 true false (omega (arith, checked.each_wire)) in
        let was : bit (slice_index_or marks v.0 false) ≡ 0 = rw unmarked refl in
        omega (arith, checked.total, length_push seen v);
    along = λ k a j h a_low j_low is_source is_target. elim (cases_lt a (length seen)) [
      | inl less ↦ elim (cases_lt j (length seen)) [
        | inl j_less ↦ checked.along k a j h less j_less
            (sym (ap (λ (u : WireId). u.0) (get_or_append_left seen (v ∷ []) (record { 0 = 0 }) a less)) ∙ is_source)
            (sym (ap (λ (u : WireId). u.0) (get_or_append_left seen (v ∷ []) (record { 0 = 0 }) j j_less)) ∙ is_target)
        | inr j_over ↦ omega arith
      ]
      | inr over ↦
          let last : length seen ≡ a = omega (arith, length_push seen v) in
          let from : (edge_at pairs k).0.0 ≡ v.0 = sym is_source ∙ ap (λ (u : WireId). u.0) (get_or_push seen v (record { 0 = 0 }) a last) in
          let clear : slice_index_or (set marks v.0 true) (edge_at pairs k).1.0 false ≡ false = from_each
          (λ (e : WireEdge). slice_index_or (set marks v.0 true) e.1.0 false ≡ false) v.0 pairs free k h from in
          let in_range = All-push (λ (u : WireId). u.0 < count) seen v checked.in_range low j (record { 0 = 0 }) j_low in
          absurd (both_ways _ (ap (λ u. slice_index_or (set marks v.0 true) u false) is_target ∙ clear) (marked_after j j_low in_range))
    ];
  }

all_marked : (bs : List Bool) → count_by (λ b. b) bs ≡ length bs → (k : ℕ) → k < length bs → slice_index_or bs k false ≡ true
all_marked [] all k h = absurd (omega arith)
all_marked (false ∷ bs) all k h = absurd (omega (arith, count_by-no (λ b. b) false bs refl, count_by-le-length (λ b. b) bs))
all_marked (true ∷ bs) all zero h = refl
all_marked (true ∷ bs) all (suc k) h = all_marked bs (omega (arith, count_by-yes (λ b. b) true bs refl)) k (omega arith)

-- as many wires as there are
pub IsWireOrder-checked : (count : ℕ) (pairs : List WireEdge) (list : List WireId) (marks : List Bool) → IsChecked count pairs list marks
    → length list ≡ count → IsWireOrder count pairs list
IsWireOrder-checked count pairs list marks checked full = record {
  each_place = full;
  in_range = checked.in_range;
  each_once = λ w h.
      let marked = all_marked marks (omega (arith, checked.total, checked.each_wire)) w (omega (arith, checked.each_wire)) in
      let one : bit (slice_index_or marks w false) ≡ 1 = rw marked refl in
      omega (arith, checked.once w h);
  along = checked.along;
}

-- what is found in a list that is no order: a wire that was seen before
module _ (count : ℕ) (pairs : List WireEdge) (list : List WireId) (k : ℕ) (marks : List Bool) (order : IsWireOrder count pairs list) (low : k < length list)
    (checked : IsChecked count pairs (take k list) marks) where
  v_low : wire_at list k < count
  v_low = order.in_range k (record { 0 = 0 }) low

  pub seen_again : slice_index_or marks (wire_at list k) false ≡ true → ⊥
  seen_again marked =
      let w = wire_at list k in
      let once : bit (slice_index_or marks w false) ≡ 1 = rw marked refl in
      let more = count_by_more_yes (λ (u : WireId). u.0 == w) list k (record { 0 = 0 }) low (eq-eqb w w refl) in
      omega (arith, checked.once w v_low, order.each_once w v_low, sum_by-take-le (λ (u : WireId). bit (u.0 == w)) list (k + 1))

  pub unmarked_before : slice_index_or marks (wire_at list k) false ≡ false
  unmarked_before = elim (cases_Bool (slice_index_or marks (wire_at list k) false)) [
    | inl marked ↦ absurd (seen_again marked)
    | inr unmarked ↦ unmarked
  ]

-- or an edge from a wire to one that was seen before it, or to itself
pub leads_back : (count : ℕ) (pairs : List WireEdge) (list : List WireId) (k : ℕ) (marks : List Bool) → AreEdges count pairs → IsWireOrder count pairs list
    → k < length list
    → IsChecked count pairs (take k list) marks → LeadToMarked (edges_from (wire_at list k) pairs) (set marks (wire_at list k) true) → ⊥
leads_back count pairs list k marks edges order low checked found =
    let v = get_or list k (record { 0 = 0 }) in
    let w = (edge_at (edges_from v.0 pairs) found.0).1.0 in
    let place = place_from v.0 pairs found.0 found.1 in
    let v_low = order.in_range k (record { 0 = 0 }) low in
    let w_low : w < count = subst (λ (e : WireEdge). e.1.0 < count) place.2 (edges.join place.0 (record { 0 = 0 }, record { 0 = 0 }) place.1).1 in
    let unmarked = unmarked_before count pairs list k marks order low checked in
    let once = once_after count pairs (take k list) marks v checked v_low unmarked w w_low in
    let marked : bit (slice_index_or (set marks v.0 true) w false) ≡ 1 = rw found.2 refl in
    let upto = take_more list k (record { 0 = 0 }) low in
    let long = length-take-le (k + 1) list (omega arith) in
    let seen = place-of (take (k + 1) list) w (omega (arith, ap (λ xs. times xs w) upto)) in
    let at : wire_at list seen.0 ≡ w = ap (λ (u : WireId). u.0) (sym (get_or-take (k + 1) list seen.0 (record { 0 = 0 }) (omega (arith, seen.1)))) ∙ seen.2 in
    let behind = order.along place.0 k seen.0 place.1 low (omega (arith, seen.1))
    (sym (ap (λ (e : WireEdge). e.0.0) place.2 ∙ from_begins v.0 pairs found.0 found.1)) (at ∙ sym (ap (λ (e : WireEdge). e.1.0) place.2)) in
    omega (arith, seen.1)

-- an edge from a wire leads to a wire
pub from_in_range : (count : ℕ) (pairs : List WireEdge) (v k : ℕ) → AreEdges count pairs → k < length (edges_from v pairs)
    → (edge_at (edges_from v pairs) k).1.0 < count
from_in_range count pairs v k edges low = (All-filter (λ (e : WireEdge). e.0.0 == v) (λ (e : WireEdge). (e.0.0 < count) × (e.1.0 < count)) pairs edges.join k
    (record { 0 = 0 }, record { 0 = 0 }) low).1

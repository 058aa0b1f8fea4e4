-- The edges from one wire stand side by side in ascending edges.
use Rattle.std.proofs.Common.{◌≡◌, ℕ, ◌+◌, ◌-◌, ◌<◌, ◌≤◌, Bool, true, ◌==◌, nat_lt, List, [], ◌∷◌, ◌++◌, length, filter, slice_index_or, take}
use Rattle.std.proofs.Common.{drop, get_or, slice_index, refl, sym, ap, ◌∙◌, subst, arith, All, inl, inr}
use Rattle.std.proofs.lemmas.Bool.{cases_lt, ne_eqb, eq-eqb, or_cases, and_parts, ltb-true, ltb-false, leb-true, leb-false, eqb-true}
use Rattle.std.proofs.lemmas.Bool.{lt-ltb, le-ltb, lt-leb, le-leb}
use Rattle.std.proofs.lemmas.List.{take-append-drop, drop-drop, get_or-take, get_or-drop, append-nil, length-drop, length-take-le, get_or_default}
use Rattle.std.proofs.lemmas.List.{length_push, get_or_append_left, get_or-append-add}
use Rattle.std.proofs.lemmas.List.Elements.{filter-append, All-head, All-tail}
use Rattle.std.specs.List.Sorted.{IsNonDecreasingBy}
use Rattle.base_facts.proofs.Lists.{filter-none}
use Rattle.grc_graph.specs.WireOrders.{WireEdge, edge_at, edge_before, AreEdges}
use Rattle.grc_order.specs.Runs.{AreBegins, BeginBelow, SplitsBelow, SplitsAbove}
use Rattle.grc_order.specs.Schedules.{edges_from}

filter-all : {X : Type 0} (p : X → Bool) (xs : List X) → All (λ x. p x ≡ true) xs → filter p xs ≡ xs
filter-all p [] all = refl
filter-all p (x ∷ xs) all =
    let here : p x ≡ true = All-head (λ y. p y ≡ true) x xs all in
    rw here (ap (λ ys. x ∷ ys) (filter-all p xs (All-tail (λ y. p y ≡ true) x xs all)))

-- the beginnings do not fall
edge_before-from : (d e : WireEdge) → edge_before d e ≡ true → d.0.0 ≤ e.0.0
edge_before-from d e before = elim (or_cases (nat_lt d.0.0 e.0.0) _ before) [
  | inl lower ↦ let h = ltb-true d.0.0 e.0.0 lower in omega arith
  | inr same ↦ let h = eqb-true d.0.0 e.0.0 (and_parts _ _ same).0 in omega arith
]

pub beginnings_rise : (count : ℕ) (pairs : List WireEdge) → AreEdges count pairs → IsNonDecreasingBy (λ (e : WireEdge). e.0.0) pairs
beginnings_rise count pairs edges i j d below low = elim (cases_lt i j) [
  | inl less ↦ edge_before-from _ _ (edges.ascend i j d less low)
  | inr over ↦ let same : i ≡ j = omega arith in let e = ap (λ k. (slice_index_or pairs k d).0.0) same in omega arith
]

-- Between the first edge that does not begin below v, and the first that begins above v.
module _ (v : ℕ) (pairs : List WireEdge) (a b : ℕ) (low : a ≤ length pairs) (high : b ≤ length pairs)
    (first : SplitsBelow v pairs a) (second : SplitsAbove v pairs b) where
  below : (k : ℕ) → k < a → (edge_at pairs k).0.0 < v
  below k h = ltb-true (edge_at pairs k).0.0 v (first.0 k (record { 0 = 0 }, record { 0 = 0 }) (omega arith) (omega arith))

  from : (k : ℕ) → a ≤ k → k < length pairs → v ≤ (edge_at pairs k).0.0
  from k h g = ltb-false (edge_at pairs k).0.0 v (first.1 k (record { 0 = 0 }, record { 0 = 0 }) (omega arith) (omega arith))

  upto : (k : ℕ) → k < b → (edge_at pairs k).0.0 ≤ v
  upto k h = leb-true (edge_at pairs k).0.0 v (second.0 k (record { 0 = 0 }, record { 0 = 0 }) (omega arith) (omega arith))

  above : (k : ℕ) → b ≤ k → k < length pairs → v < (edge_at pairs k).0.0
  above k h g = leb-false (edge_at pairs k).0.0 v (second.1 k (record { 0 = 0 }, record { 0 = 0 }) (omega arith) (omega arith))

  pub run-ordered : a ≤ b
  run-ordered = elim (cases_lt b a) [
    | inl less ↦ let p = below b less in let q = above b (omega arith) (omega arith) in absurd (omega arith)
    | inr over ↦ over
  ]

  before_run : filter (λ (e : WireEdge). e.0.0 == v) (take a pairs) ≡ []
  before_run = filter-none _ (take a pairs) (λ k d h.
      let short = length-take-le a pairs low in
      let e = get_or-take a pairs k d (omega arith) ∙ get_or_default pairs k d (record { 0 = 0 }, record { 0 = 0 }) (omega arith) in
      let less = below k (omega arith) in
      rw e (ne_eqb _ v (omega arith)))

  in_run : filter (λ (e : WireEdge). e.0.0 == v) (take (b - a) (drop a pairs)) ≡ take (b - a) (drop a pairs)
  in_run = filter-all _ (take (b - a) (drop a pairs)) (λ k d h.
      let ordered = run-ordered in
      let rest = length-drop a pairs in
      let short = length-take-le (b - a) (drop a pairs) (omega arith) in
      let e = get_or-take (b - a) (drop a pairs) k d (omega arith) ∙ get_or-drop a pairs k d
      ∙ get_or_default pairs (a + k) d (record { 0 = 0 }, record { 0 = 0 }) (omega arith) in
      let more = from (a + k) (omega arith) (omega arith) in
      let less = upto (a + k) (omega arith) in
      rw e (eq-eqb _ v (omega arith)))

  behind_run : filter (λ (e : WireEdge). e.0.0 == v) (drop b pairs) ≡ []
  behind_run = filter-none _ (drop b pairs) (λ k d h.
      let rest = length-drop b pairs in
      let e = get_or-drop b pairs k d ∙ get_or_default pairs (b + k) d (record { 0 = 0 }, record { 0 = 0 }) (omega arith) in
      let more = above (b + k) (omega arith) (omega arith) in
      rw e (ne_eqb _ v (omega arith)))

  parts : pairs ≡ take a pairs ++ (take (b - a) (drop a pairs) ++ drop b pairs)
  parts =
      let ordered = run-ordered in
      let e : a + (b - a) ≡ b = omega arith in
      let behind : drop (b - a) (drop a pairs) ≡ drop b pairs = drop-drop (b - a) a pairs ∙ ap (λ n. drop n pairs) e in
      sym (take-append-drop a pairs) ∙ ap (λ xs. take a pairs ++ xs)
      (sym (take-append-drop (b - a) (drop a pairs)) ∙ ap (λ xs. take (b - a) (drop a pairs) ++ xs) behind)

  pub edges_from-run : take (b - a) (drop a pairs) ≡ edges_from v pairs
  edges_from-run =
      let split = filter-append (λ (e : WireEdge). e.0.0 == v) (take a pairs) (take (b - a) (drop a pairs) ++ drop b pairs) in
      let split_rest = filter-append (λ (e : WireEdge). e.0.0 == v) (take (b - a) (drop a pairs)) (drop b pairs) in
      let none = append-nil (take (b - a) (drop a pairs)) in
      sym (ap (edges_from v) parts ∙ split ∙ rw (before_run, split_rest, in_run, behind_run) none)

-- ---- where the edges from each wire begin

edge-read : (pairs : List WireEdge) (k : ℕ) (d : WireEdge) → k < length pairs → (slice_index_or pairs k d).0.0 ≡ (edge_at pairs k).0.0
edge-read pairs k d h = ap (λ e. e.0.0) (get_or_default pairs k d (record { 0 = 0 }, record { 0 = 0 }) h)

-- this place splits the edges where it is the first that does not begin below the wire
pub splits-at : (v : ℕ) (pairs : List WireEdge) (p : ℕ) → IsNonDecreasingBy (λ (e : WireEdge). e.0.0) pairs → p ≤ length pairs → BeginBelow v pairs p
    → (p < length pairs → v ≤ (edge_at pairs p).0.0) → SplitsBelow v pairs p
splits-at v pairs p rise within below here = (
  λ k d g h. let e = edge-read pairs k d (omega arith) in let b = below k h in lt-ltb _ v (omega arith),
  λ k d g h.
      let e = edge-read pairs k d h in
      let up : (edge_at pairs p).0.0 ≤ (edge_at pairs k).0.0 = rise p k (record { 0 = 0 }, record { 0 = 0 }) g h in
      let low : p < length pairs = omega arith in
      let from = here low in
      le-ltb _ v (omega arith),
)

-- what begins below a wire begins below a later one
pub begin_below : (v w : ℕ) (pairs : List WireEdge) (p : ℕ) → SplitsBelow v pairs p → v ≤ w → BeginBelow w pairs p
begin_below v w pairs p s le k h =
    let b = ltb-true (edge_at pairs k).0.0 v (s.0 k (record { 0 = 0 }, record { 0 = 0 }) (omega arith) h) in
    omega arith

-- where the next wire's edges begin, those of this one end
pub splits-above : (v : ℕ) (pairs : List WireEdge) (p : ℕ) → SplitsBelow (v + 1) pairs p → SplitsAbove v pairs p
splits-above v pairs p s = (
  λ k d g h. let b = ltb-true _ (v + 1) (s.0 k d g h) in le-leb _ v (omega arith),
  λ k d g h. let b = ltb-false _ (v + 1) (s.1 k d g h) in lt-leb _ v (omega arith),
)

-- all edges begin below the number of wires
pub all-below : (count : ℕ) (pairs : List WireEdge) → AreEdges count pairs → BeginBelow count pairs (length pairs)
all-below count pairs edges k h = let j = edges.join k (record { 0 = 0 }, record { 0 = 0 }) h in omega (arith, j.0)

-- the wires before this one are done
pub record BeginsUpto (pairs : List WireEdge) (begins : List ℕ) (n : ℕ) : Type 0 where
  pub each : length begins ≡ n
  pub within : (w : ℕ) → w < n → slice_index begins w ≤ length pairs
  pub splits : (w : ℕ) → w < n → SplitsBelow w pairs (slice_index begins w)

pub begins-none : (pairs : List WireEdge) → BeginsUpto pairs [] 0
begins-none pairs = record { each = refl; within = λ w h. absurd (omega arith); splits = λ w h. absurd (omega arith) }

pub begins-more : (pairs : List WireEdge) (begins : List ℕ) (n p : ℕ) → BeginsUpto pairs begins n → p ≤ length pairs → SplitsBelow n pairs p
    → BeginsUpto pairs (begins ++ p ∷ []) (n + 1)
begins-more pairs begins n p b le s = record {
  each = omega (arith, length_push begins p, b.each);
  within = λ w h. elim (cases_lt w n) [
    | inl less ↦ let e = kept w less in let l = b.within w less in omega arith
    | inr over ↦ let e = new w (omega arith) in omega arith
  ];
  splits = λ w h. elim (cases_lt w n) [
    | inl less ↦ subst (SplitsBelow w pairs) (sym (kept w less)) (b.splits w less)
    | inr over ↦ let same : n ≡ w = omega arith in
        subst (SplitsBelow w pairs) (sym (new w (sym same))) (subst (λ k. SplitsBelow k pairs p) same s)
  ];
}
  where
    kept : (w : ℕ) → w < n → slice_index (begins ++ p ∷ []) w ≡ slice_index begins w
    kept w h = get_or_append_left begins (p ∷ []) 0 w (omega (arith, b.each))

    new : (w : ℕ) → w ≡ n → slice_index (begins ++ p ∷ []) w ≡ p
    new w e = ap (λ k. get_or (begins ++ p ∷ []) k 0) (let h : w ≡ length begins + 0 = omega (arith, b.each) in h) ∙ get_or-append-add begins (p ∷ []) 0 0

pub begins-all : (count : ℕ) (pairs : List WireEdge) (begins : List ℕ) → BeginsUpto pairs begins (count + 1) → AreBegins count pairs begins
begins-all count pairs begins b = record {
  each = b.each;
  within = λ w h. b.within w (omega arith);
  splits = λ w h. b.splits w (omega arith);
}

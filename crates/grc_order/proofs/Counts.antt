-- How often wires stand in lists, and how many edges hold a wire back.
use Rattle.std.proofs.Common.{◌≡◌, ℕ, ◌+◌, ◌<◌, zero, suc, Bool, true, false, ◌==◌, ◌&&◌, cond, List, [], ◌∷◌, ◌++◌, length}
use Rattle.std.proofs.Common.{count_by, refl, sym, ◌∙◌, arith, inl, inr}
use Rattle.std.proofs.lemmas.Bool.{cases_eq, ne_eqb, eq-eqb, eqb-true, eqb-false, and_parts, and_from, cases_Bool}
use Rattle.std.proofs.lemmas.List.Sums.{sum_by_push}
use Rattle.base_facts.proofs.Lists.{count_by-cons, count_by-no, count_by-yes}
use Rattle.base_types.specs.declared.indices.WireId.{WireId}
use Rattle.grc_graph.specs.WireOrders.{WireEdge, wire_at, edge_at, times}
use Rattle.grc_order.specs.Schedules.{holds_back, edges_from, arrivals}

-- 1 where a test passes, else 0
abbrev pub bit : Bool → ℕ
bit b = cond b 1 0

-- one more wire
pub times-push : (xs : List WireId) (v : WireId) (w : ℕ) → times (xs ++ v ∷ []) w ≡ times xs w + cond (v.0 == w) 1 0
times-push xs v w = sum_by_push (λ (u : WireId). cond (u.0 == w) 1 0) xs v

both_kinds : (b : Bool) (n : ℕ) → cond (b && true) 1 0 + n ≡ cond (b && false) 1 0 + (cond b 1 0 + n)
both_kinds true n = omega arith
both_kinds false n = omega arith

-- the edges from a wire that is placed now are those that hold a wire back no more
released : (placed : List WireId) (v : WireId) (w : ℕ) (e : WireEdge) (F : List WireEdge) (b : Bool) → e.0.0 == v.0 ≡ b → times placed v.0 ≡ 0
    → cond (holds_back placed w e) 1 0 + arrivals F w ≡ cond (holds_back (placed ++ v ∷ []) w e) 1 0 + arrivals (cond b (e ∷ F) F) w
released placed v w e F true is free =
    let same : e.0.0 ≡ v.0 = eqb-true e.0.0 v.0 is in
    let refl_eq : (v.0 == v.0) ≡ true = eq-eqb v.0 v.0 refl in
    let now : times (placed ++ v ∷ []) v.0 ≡ 1 = times-push placed v v.0 ∙ rw (free, refl_eq) refl in
    rw (same, now, free, count_by-cons (λ (d : WireEdge). d.1.0 == w) e F) (both_kinds (e.1.0 == w) (arrivals F w))
released placed v w e F false is free =
    let apart : v.0 == e.0.0 ≡ false = ne_eqb v.0 e.0.0 (λ h. eqb-false e.0.0 v.0 is (sym h)) in
    let now : times (placed ++ v ∷ []) e.0.0 ≡ times placed e.0.0 = times-push placed v e.0.0 ∙ rw apart (omega arith) in
    rw now refl

pub holds_back-split : (placed : List WireId) (v : WireId) (w : ℕ) (pairs : List WireEdge) → times placed v.0 ≡ 0
    → count_by (holds_back placed w) pairs ≡ count_by (holds_back (placed ++ v ∷ []) w) pairs + arrivals (edges_from v.0 pairs) w
holds_back-split placed v w [] free = refl
holds_back-split placed v w (e ∷ es) free =
    let rest = holds_back-split placed v w es free in
    let here = released placed v w e (edges_from v.0 es) (e.0.0 == v.0) refl free in
    let old = count_by-cons (holds_back placed w) e es in
    let new = count_by-cons (holds_back (placed ++ v ∷ []) w) e es in
    omega (arith, rest, here, old, new)

-- and what has a place stands in it
pub times-place : (xs : List WireId) (k : ℕ) → k < length xs → 0 < times xs (wire_at xs k)
times-place [] k low = absurd (omega arith)
times-place (x ∷ xs) zero low =
    let e = eq-eqb x.0 x.0 refl in
    let more = count_by-yes (λ (v : WireId). v.0 == x.0) x xs e in
    omega arith
times-place (x ∷ xs) (suc k) low =
    let rest = times-place xs k (omega arith) in
    let more = count_by-cons (λ (v : WireId). v.0 == wire_at xs k) x xs in
    omega (arith, rest, more)

-- where some edge holds a wire back, one leads to it from a wire that is not placed
pub holder : (placed : List WireId) (w : ℕ) (pairs : List WireEdge) → 0 < count_by (holds_back placed w) pairs
    → (k : ℕ) × (k < length pairs) × ((edge_at pairs k).1.0 ≡ w) × (times placed (edge_at pairs k).0.0 ≡ 0)
holder placed w [] some = absurd (omega arith)
holder placed w (e ∷ es) some = elim (cases_Bool (holds_back placed w e)) [
  | inl holds ↦ let both = and_parts _ _ holds in (0, omega arith, eqb-true e.1.0 w both.0, eqb-true _ 0 both.1)
  | inr free ↦
      let more = count_by-no (holds_back placed w) e es free in
      let rest = holder placed w es (omega arith) in
      (suc rest.0, omega (arith, rest.1), rest.2, rest.3)
]

-- and where none does, each edge to it leads from a placed wire
pub unheld : (placed : List WireId) (w : ℕ) (pairs : List WireEdge) (k : ℕ) → k < length pairs → (edge_at pairs k).1.0 ≡ w
    → count_by (holds_back placed w) pairs ≡ 0 → 0 < times placed (edge_at pairs k).0.0
unheld placed w [] k low into none = absurd (omega arith)
unheld placed w (e ∷ es) zero low into none = elim (cases_eq (times placed e.0.0) 0) [
  | inl free ↦
      let p = eq-eqb e.1.0 w into in
      let q = eq-eqb (times placed e.0.0) 0 free in
      let more = count_by-yes (holds_back placed w) e es (and_from (e.1.0 == w) _ p q) in
      absurd (omega arith)
  | inr some ↦ omega arith
]
unheld placed w (e ∷ es) (suc k) low into none =
    let more = count_by-cons (holds_back placed w) e es in
    unheld placed w es k (omega arith) into (omega (arith, more))

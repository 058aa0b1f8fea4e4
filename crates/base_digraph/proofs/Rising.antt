-- Closed walks: their nodes are nodes, and where ranks grow along each edge, no walk is closed.
use Rattle.std.proofs.Common.{◌≡◌, ℕ, ◌+◌, ◌-◌, ◌<◌, ◌≤◌, zero, suc, List, All, length, get_or, slice_index, inl, inr, ap, subst, arith}
use Rattle.std.proofs.lemmas.Bool.{cases_lt}
use Rattle.std.proofs.lemmas.List.{get_or_default}
use Rattle.base_digraph.specs.Walks.{HasEdge, JoinsNodes, IsClosedWalk, AreRanks}

pub walk-within : (count : ℕ) (edges : List (ℕ × ℕ)) (walk : List ℕ) → JoinsNodes count edges → IsClosedWalk edges walk → All (λ t. t < count) walk
walk-within count edges walk joins closed k d h =
    let at : get_or walk k d ≡ get_or walk k 0 = get_or_default walk k d 0 h in
    let begins : (a b : ℕ) → HasEdge edges a b → a < count = λ a b e.
    let inside = (joins e.0 (a, b) e.1).0 in
    let is = ap (λ (x : ℕ × ℕ). x.0) e.2 in
    omega (arith, is, inside) in
    elim (cases_lt (k + 1) (length walk)) [
      | inl low ↦ rw at (begins _ _ (closed.steps k low))
      | inr last ↦
          let n : length walk - 1 ≡ k = omega arith in
          rw at (begins _ _ (subst (λ m. HasEdge edges (get_or walk m 0) (get_or walk 0 0)) n closed.closes))
    ]

module _ (count : ℕ) (edges : List (ℕ × ℕ)) (ranks : List ℕ) (are : AreRanks count edges ranks) where
  -- the rank grows along an edge
  pub rank-edge : (from to : ℕ) → HasEdge edges from to → slice_index ranks from < slice_index ranks to
  rank-edge from to edge = rw edge.2 at (are.grow edge.0 (from, to) edge.1)

  -- so no node of a walk has a lower rank than its first
  rank-walk : (walk : List ℕ) → IsClosedWalk edges walk → (k : ℕ) → k < length walk →
      slice_index ranks (slice_index walk 0) ≤ slice_index ranks (slice_index walk k)
  rank-walk walk closed zero h = omega arith
  rank-walk walk closed (suc k) h =
      let low : k + 1 < length walk = omega arith in
      let e : k + 1 ≡ suc k = omega arith in
      let step = rw e at (rank-edge _ _ (closed.steps k low)) in
      omega (arith, rank-walk walk closed k (omega arith))

  pub no_closed_walk : (walk : List ℕ) → IsClosedWalk edges walk → ⊥
  no_closed_walk walk closed =
      let some = closed.some_node in
      omega (arith, rank-walk walk closed (length walk - 1) (omega arith), rank-edge _ _ closed.closes)

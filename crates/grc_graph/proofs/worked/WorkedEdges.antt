-- Worked edges, by hand: pairs of numbers that are the edges of two wires, orders along an edge, and ranks that go up.
use Rattle.std.proofs.Common.{◌≡◌, ◌<◌, ℕ, zero, suc, List, [], ◌∷◌, slice_index_or, refl, sym, ap, arith, lit<}
use Rattle.std.specs.Prelude.{Contains}
use Rattle.grc_graph.specs.Edges.{Edge, edge}
use Rattle.grc_graph.specs.Layers.{Resumed}
use Rattle.grc_graph.specs.NumberedEdges.{named_edge, AreEdgesOf}
use Rattle.grc_graph.specs.Orders.{IsOrder, GoUp}
use Rattle.grc_graph.specs.WireOrders.{WireEdge}
use Rattle.grc_graph.specs.Wires.{Wire, Out, Go}

-- two wires, and an edge from the first to the second, which is also what a number out of range stands for
abbrev names : List Wire
names = Out 1 ∷ Go 0 Resumed ∷ []

abbrev edges : List Edge
edges = edge (Out 1) (Go 0 Resumed) ∷ []

abbrev pair : ℕ → ℕ → WireEdge
pair from to = (record { 0 = from }, record { 0 = to })

each_end_by_its_number : named_edge names 0 1 ∷ named_edge names 1 0 ∷ [] ≡ edge (Out 1) (Go 0 Resumed) ∷ edge (Go 0 Resumed) (Out 1) ∷ []
each_end_by_its_number = refl

abbrev beginning : Edge → Wire
beginning e = e.from

abbrev ending : Edge → Wire
ending e = e.to

out_is_no_go : Out 1 ≡ Go 0 Resumed → ⊥
out_is_no_go e = cc

pairs_of_edges : AreEdgesOf names edges (pair 0 1 ∷ [])
pairs_of_edges = record {
  ascending = record { join = each; ascend = λ i j d low after. absurd (omega (arith, low, after)) };
  sound = only;
  whole = all;
}
  where
    each : (k : ℕ) (d : WireEdge) → k < 1 → (slice_index_or (pair 0 1 ∷ []) k d).0.0 < 2 × (slice_index_or (pair 0 1 ∷ []) k d).1.0 < 2
    each zero d low = (lit< tt, lit< tt)
    each (suc k) d low = absurd (omega (arith, low))

    only : (from to : ℕ) → Contains (pair 0 1 ∷ []) (pair from to) → Contains edges (named_edge names from to)
    only from to (zero, low, is) = (0, lit< tt, ap (λ e. named_edge names e.0.0 e.1.0) is)
    only from to (suc k, low, is) = absurd (omega (arith, low))

    all : (from to : ℕ) → from < 2 → to < 2 → Contains edges (named_edge names from to) → Contains (pair 0 1 ∷ []) (pair from to)
    all from to f t (suc k, low, is) = absurd (omega (arith, low))
    all zero zero f t (zero, low, is) = absurd (out_is_no_go (sym (ap ending is)))
    all zero (suc zero) f t (zero, low, is) = (0, lit< tt, refl)
    all zero (suc (suc to)) f t (zero, low, is) = absurd (omega (arith, t))
    all (suc zero) to f t (zero, low, is) = absurd (out_is_no_go (ap beginning is))
    all (suc (suc from)) to f t (zero, low, is) = absurd (omega (arith, f))

not_the_other_way : AreEdgesOf names edges (pair 1 0 ∷ []) → ⊥
not_the_other_way h = other (h.sound 1 0 (0, lit< tt, refl))
  where
    other : Contains edges (named_edge names 1 0) → ⊥
    other (zero, low, is) = out_is_no_go (ap beginning is)
    other (suc k, low, is) = omega (arith, low)

none_left_out : AreEdgesOf names edges [] → ⊥
none_left_out h = let low = (h.whole 0 1 (lit< tt) (lit< tt) (0, lit< tt, refl)).1 in omega (arith, low)

none_out_of_range : AreEdgesOf names edges (pair 0 2 ∷ []) → ⊥
none_out_of_range h = let low = (h.ascending.join 0 (pair 0 0) (lit< tt)).1 in omega (arith, low)

-- ---- orders and ranks

not_before_itself : IsOrder (Out 1 ∷ []) (edge (Out 1) (Out 1) ∷ []) (Out 1 ∷ []) → ⊥
not_before_itself h = let low = h.along (edge (Out 1) (Out 1)) 0 0 (0, lit< tt, refl) refl refl in omega (arith, low)

not_against_the_edge : IsOrder names edges (Go 0 Resumed ∷ Out 1 ∷ []) → ⊥
not_against_the_edge h = let low = h.along (edge (Out 1) (Go 0 Resumed)) 1 0 (0, lit< tt, refl) refl refl in omega (arith, low)

no_rank_above_itself : (rank : Wire → ℕ) → GoUp rank (edge (Out 1) (Out 1) ∷ []) → ⊥
no_rank_above_itself rank h = let low = h (edge (Out 1) (Out 1)) (0, lit< tt, refl) in omega (arith, low)

-- A search that has met every node has ranked every node.
use Rattle.std.proofs.Common.{◌≡◌, ℕ, ◌<◌, ◌≤◌, false, List, [], length, slice_index, slice_index_or, map, refl, sym, ◌∙◌, arith, IsTrue, All, cond}
use Rattle.std.proofs.lemmas.Bool.{false≢true}
use Rattle.std.proofs.lemmas.List.{get_or-map, get_or_default, length-map}
use Rattle.std.proofs.lemmas.List.Sums.{sum_by-le}
use Rattle.base_digraph.specs.declared.search.State.{State}
use Rattle.base_digraph.specs.declared.search.State.TheVariants.{New, OnPath, Ranked}
use Rattle.base_digraph.specs.Walks.{JoinsNodes, AreRanks, IsOrderOf}
use Rattle.base_digraph.specs.Searches.{state_of, is_new, is_ranked, rank_in, IsSearch}

module _ (count : ℕ) (edges : List (ℕ × ℕ)) (states : List State) (rest order : List ℕ) (search : IsSearch count edges states rest [] order)
    (joins : JoinsNodes count edges) (met : (node : ℕ) → node < count → is_new (state_of states node) ≡ false) where
  ranked-from : (node : ℕ) (s : State) → node < count → state_of states node ≡ s → is_new s ≡ false → IsTrue (is_ranked s)
  ranked-from node New low at old = absurd (false≢true (sym old))
  ranked-from node (OnPath k) low at old = let none = (search.path_places node k low at).0 in absurd (omega arith)
  ranked-from node (Ranked r) low at old = refl

  all_ranked : (node : ℕ) → node < count → IsTrue (is_ranked (state_of states node))
  all_ranked node low = ranked-from node (state_of states node) low refl (met node low)

  pub All-ranked : All (λ s. IsTrue (is_ranked s)) states
  All-ranked k d h =
      let e = get_or_default states k d New h in
      rw e (all_ranked k (omega (arith, search.state_each)))

  rank_at : (node : ℕ) → node < count → slice_index (map rank_in states) node ≡ rank_in (state_of states node)
  rank_at node low = get_or-map rank_in states node New 0 (omega (arith, search.state_each))

  no_new : (k : ℕ) (d : State) → k < length states → cond (is_new (slice_index_or states k d)) 1 0 ≤ 0
  no_new k d h =
      let e = get_or_default states k d New h in
      let old = met k (omega (arith, search.state_each)) in
      rw (e, old) (omega arith)

  order_length : length order ≡ count
  order_length =
      let fewer = sum_by-le (λ s. cond (is_new s) 1 0) 0 states no_new in
      omega (arith, search.total)

  pub AreRanks-ended : AreRanks count edges (map rank_in states)
  AreRanks-ended = record {
    each_node = length-map states rank_in ∙ search.state_each;
    below = λ k d h.
        let low : k < count = omega (arith, length-map states rank_in, search.state_each) in
        let e = get_or_default (map rank_in states) k d 0 h in
        let placed = search.placed k low (all_ranked k low) in
        rw (e, rank_at k low) (omega (arith, placed.0, order_length));
    grow = λ k d h.
        let e = get_or_default edges k d (0, 0) h in
        let nodes = joins k (0, 0) h in
        rw (e, rank_at _ nodes.0, rank_at _ nodes.1) (search.grow k h (all_ranked _ nodes.1)).1;
  }

  pub IsOrderOf-ended : IsOrderOf (map rank_in states) order
  IsOrderOf-ended = record {
    each_place = order_length ∙ sym (length-map states rank_in ∙ search.state_each);
    inverse = λ node h.
        let low : node < count = omega (arith, length-map states rank_in, search.state_each) in
        rw (rank_at node low) (search.placed node low (all_ranked node low)).1;
  }

  pub order-low : All (λ node. node < count) order
  order-low k d h = let e = get_or_default order k d 0 h in rw e (search.ordered k h)

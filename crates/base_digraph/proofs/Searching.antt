-- What the steps of a search keep.
use Rattle.std.proofs.Common.{◌≡◌, ℕ, ◌+◌, ◌-◌, ◌<◌, ◌≤◌, ◌⊎◌, false, List, [], ◌∷◌, ◌++◌, length, take, drop, reverse, slice_index, set, refl, ap, sym, ◌∙◌}
use Rattle.std.proofs.Common.{arith, inl, inr, ⊎_elim, get_or-set_same, get_or-set_other, IsTrue, count_by, cond}
use Rattle.std.proofs.lemmas.Bool.{cases_eq, cases_lt, false≢true}
use Rattle.std.proofs.lemmas.List.{get_or_push, get_or_append_left, length_push, length-set, get_or-take, get_or-drop, get_or-reverse, get_or_default}
use Rattle.std.proofs.lemmas.List.{length-take-le, length-drop, length-reverse}
use Rattle.std.proofs.lemmas.List.Sums.{sum_by-set}
use Rattle.base_digraph.specs.declared.search.State.{State}
use Rattle.base_digraph.specs.declared.search.State.TheVariants.{New, OnPath, Ranked}
use Rattle.base_digraph.specs.Walks.{HasEdge, JoinsNodes, IsClosedWalk}
use Rattle.base_digraph.specs.Searches.{edge_at, IsLastInto, state_of, is_new, is_ranked, rank_in, IsSearch, StaysMet}

-- one state is written: it stands there, and the others stay
state_of-set : (states : List State) (node m : ℕ) (s : State) → node < length states →
    ((m ≡ node) × (state_of (set states node s) m ≡ s)) ⊎ ((m ≡ node → ⊥) × (state_of (set states node s) m ≡ state_of states m))
state_of-set states node m s low = ⊎_elim
    (λ (same : m ≡ node). inl (same, ap (state_of (set states node s)) same ∙ get_or-set_same states node s New low))
    (λ (apart : m ≡ node → ⊥). inr (apart, get_or-set_other states node m s New apart))
    (cases_eq m node)

-- how many nodes are new, where one state is written
new_count-set : (states : List State) (node : ℕ) (s : State) → node < length states →
    count_by is_new (set states node s) + cond (is_new (state_of states node)) 1 0 ≡ count_by is_new states + cond (is_new s) 1 0
new_count-set states node s low = sum_by-set (λ x. cond (is_new x) 1 0) states node s New low

-- one new node less
pub new_count-met : (states : List State) (node : ℕ) (s : State) → node < length states → state_of states node ≡ New → is_new s ≡ false →
    count_by is_new (set states node s) + 1 ≡ count_by is_new states
new_count-met states node s low new met = omega (arith, rw (new, met) at (new_count-set states node s low))

-- a node that was met
pub new_count-same : (states : List State) (node : ℕ) (s : State) → node < length states → is_new (state_of states node) ≡ false → is_new s ≡ false →
    count_by is_new (set states node s) ≡ count_by is_new states
new_count-same states node s low was met = omega (arith, rw (was, met) at (new_count-set states node s low))

-- nodes that were met stay met, where one state is written that is met
pub StaysMet-set : (states : List State) (node : ℕ) (s : State) → node < length states → is_new s ≡ false → StaysMet states (set states node s)
StaysMet-set states node s low met = record {
  met = λ m was. ⊎_elim (λ here. ap is_new here.1 ∙ met) (λ other. ap is_new other.1 ∙ was) (state_of-set states node m s low);
}

-- an element of a list that has one more
slice_index-push : (xs : List ℕ) (x k : ℕ) → k < length (xs ++ x ∷ []) →
    ((k ≡ length xs) × (slice_index (xs ++ x ∷ []) k ≡ x)) ⊎ ((k < length xs) × (slice_index (xs ++ x ∷ []) k ≡ slice_index xs k))
slice_index-push xs x k low = ⊎_elim
    (λ (same : k ≡ length xs). inl (same, get_or_push xs x 0 k (sym same)))
    (λ (apart : k ≡ length xs → ⊥).
    let longer = length_push xs x in
    let below : k < length xs = omega arith in
    inr (below, get_or_append_left xs (x ∷ []) 0 k below))
    (cases_eq k (length xs))

unranked : (s t : State) → s ≡ t → is_ranked t ≡ false → IsTrue (is_ranked s) → ⊥
unranked s t e not_ranked ranked = false≢true (sym not_ranked ∙ ap is_ranked (sym e) ∙ ranked)

not_new : (k : ℕ) (s : State) → OnPath k ≡ s → s ≡ New → ⊥
not_new k s e f = let g : OnPath k ≡ New = e ∙ f in cc

OnPath-same : {j k : ℕ} → OnPath j ≡ OnPath k → j ≡ k
OnPath-same e = cc

module _ (count : ℕ) (edges : List (ℕ × ℕ)) (states : List State) (rest path order : List ℕ) (search : IsSearch count edges states rest path order) where
  -- a new node is put at the end of the path
  module _ (node : ℕ) (low : node < count) (new : state_of states node ≡ New)
      (joined : 0 < length path → HasEdge edges node (slice_index path (length path - 1))) where
    in_states : node < length states
    in_states = omega (arith, search.state_each)

    abbrev entered : List State
    entered = set states node (OnPath (length path))

    entered-cases : (m : ℕ) → ((m ≡ node) × (state_of entered m ≡ OnPath (length path))) ⊎ ((m ≡ node → ⊥) × (state_of entered m ≡ state_of states m))
    entered-cases m = state_of-set states node m (OnPath (length path)) in_states

    -- what is ranked was ranked, and stays what it was
    entered-ranked : (m : ℕ) → IsTrue (is_ranked (state_of entered m)) → state_of entered m ≡ state_of states m
    entered-ranked m ranked = ⊎_elim (λ here. absurd (unranked _ _ here.1 refl ranked)) (λ other. other.1) (entered-cases m)

    entered-stays : (m : ℕ) → IsTrue (is_ranked (state_of states m)) → state_of entered m ≡ state_of states m
    entered-stays m ranked = ⊎_elim (λ here. absurd (unranked _ _ (ap (state_of states) here.0 ∙ new) refl ranked)) (λ other. other.1) (entered-cases m)

    pub IsSearch-enter : IsSearch count edges entered rest (path ++ node ∷ []) order
    IsSearch-enter = record {
      state_each = length-set states node (OnPath (length path)) ∙ search.state_each;
      rest_each = search.rest_each;
      rest_within = search.rest_within;
      rest_leads = search.rest_leads;
      seen = λ k h behind.
          let ranked = search.seen k h behind in rw (entered-stays _ ranked) ranked;
      grow = λ k h ranked.
          let e = entered-ranked _ ranked in
          let old = search.grow k h (rw e at ranked) in
          let f = entered-stays _ old.0 in
          rw (e, f) old;
      placed = λ m h ranked.
          let e = entered-ranked m ranked in rw e (search.placed m h (rw e at ranked));
      path_nodes = λ k h. ⊎_elim
          (λ here. rw (here.1) (low, get_or-set_same states node (OnPath (length path)) New in_states ∙ ap OnPath (sym here.0)))
          (λ before.
          let old = search.path_nodes k before.0 in
          rw before.1 (
            old.0,
            ⊎_elim (λ here. absurd (not_new _ _ (sym old.1) (ap (state_of states) here.0 ∙ new))) (λ other. other.1 ∙ old.1)
                (entered-cases (slice_index path k)),
          ))
          (slice_index-push path node k h);
      path_places = λ m k h at. ⊎_elim
          (λ here.
          let e : length path ≡ k = OnPath-same (sym here.1 ∙ at) in
          let longer = length_push path node in
          (omega arith, get_or_push path node 0 k e ∙ sym here.0))
          (λ other.
          let old = search.path_places m k h (sym other.1 ∙ at) in
          let longer = length_push path node in
          (omega (arith, old.0), get_or_append_left path (node ∷ []) 0 k old.0 ∙ old.1))
          (entered-cases m);
      path_steps = λ k h.
          let longer = length_push path node in
          let low_k : k < length path = omega arith in
          let first : slice_index (path ++ node ∷ []) k ≡ slice_index path k = get_or_append_left path (node ∷ []) 0 k low_k in
          ⊎_elim
          (λ here. let last : k ≡ length path - 1 = omega (arith, here.0) in rw (first, here.1, last) (joined (omega arith)))
          (λ before. rw (first, before.1) (search.path_steps k before.0))
          (slice_index-push path node (k + 1) h);
      ordered = search.ordered;
      total =
          let longer = length_push path node in
          let counts = new_count-met states node (OnPath (length path)) in_states new refl in
          omega (arith, search.total);
    }

  -- the last node of the path is taken from there and ranked: no edge into it is left
  module _ (node : ℕ) (some : 0 < length path) (last : slice_index path (length path - 1) ≡ node) (done : slice_index rest node ≡ 0)
      (joins : JoinsNodes count edges) where
    last_node : (node < count) × (state_of states node ≡ OnPath (length path - 1))
    last_node = rw last at (search.path_nodes (length path - 1) (omega arith))

    in_states' : node < length states
    in_states' = omega (arith, last_node.0, search.state_each)

    abbrev left : List State
    left = set states node (Ranked (length order))

    left-cases : (m : ℕ) → ((m ≡ node) × (state_of left m ≡ Ranked (length order))) ⊎ ((m ≡ node → ⊥) × (state_of left m ≡ state_of states m))
    left-cases m = state_of-set states node m (Ranked (length order)) in_states'

    left-stays : (m : ℕ) → IsTrue (is_ranked (state_of states m)) → state_of left m ≡ state_of states m
    left-stays m ranked = ⊎_elim (λ here. absurd (unranked _ _ (ap (state_of states) here.0 ∙ last_node.1) refl ranked)) (λ other. other.1) (left-cases m)

    path_before : (k : ℕ) → k < length path - 1 → slice_index (take (length path - 1) path) k ≡ slice_index path k
    path_before k h = get_or-take (length path - 1) path k 0 h

    path_length : length (take (length path - 1) path) ≡ length path - 1
    path_length = length-take-le (length path - 1) path (omega arith)

    left-grows : (k : ℕ) → k < length edges → IsTrue (is_ranked (state_of left (edge_at edges k).1)) →
        IsTrue (is_ranked (state_of left (edge_at edges k).0)) × (rank_in (state_of left (edge_at edges k).0) < rank_in (state_of left (edge_at edges k).1))
    left-grows k h ranked = ⊎_elim
        (λ here.
        let none_left : slice_index rest (edge_at edges k).1 ≡ 0 = ap (slice_index rest) here.0 ∙ done in
        let from_ranked = search.seen k h (omega arith) in
        let f = left-stays _ from_ranked in
        let low = search.placed (edge_at edges k).0 (joins k (0, 0) h).0 from_ranked in
        rw (f, here.1) (from_ranked, low.0))
        (λ other.
        let old = search.grow k h (rw other.1 at ranked) in
        let f = left-stays _ old.0 in
        rw (f, other.1) old)
        (left-cases (edge_at edges k).1)

    left-placed : (m : ℕ) → m < count → IsTrue (is_ranked (state_of left m)) →
        (rank_in (state_of left m) < length (order ++ node ∷ [])) × (slice_index (order ++ node ∷ []) (rank_in (state_of left m)) ≡ m)
    left-placed m h ranked =
        let longer = length_push order node in
        ⊎_elim
        (λ here. rw here.1 (omega arith, get_or_push order node 0 (length order) refl ∙ sym here.0))
        (λ other.
        let old = search.placed m h (rw other.1 at ranked) in
        rw other.1 (omega (arith, old.0), get_or_append_left order (node ∷ []) 0 _ old.0 ∙ old.1))
        (left-cases m)

    left-path : (k : ℕ) → k < length path - 1 → (slice_index path k < count) × (state_of left (slice_index path k) ≡ OnPath k)
    left-path k h =
        let old = search.path_nodes k (omega arith) in (
          old.0,
          ⊎_elim
              (λ here. let e : k ≡ length path - 1 = OnPath-same (sym old.1 ∙ ap (state_of states) here.0 ∙ last_node.1) in absurd (omega arith))
              (λ other. other.1 ∙ old.1)
              (left-cases (slice_index path k)),
        )

    left-places : (m k : ℕ) → m < count → state_of left m ≡ OnPath k → (k < length path - 1) × (slice_index path k ≡ m)
    left-places m k h at = ⊎_elim
        (λ here. let e : Ranked (length order) ≡ OnPath k = sym here.1 ∙ at in cc)
        (λ other.
        let old = search.path_places m k h (sym other.1 ∙ at) in
        let apart : k ≡ length path - 1 → ⊥ = λ e. other.0 (sym old.1 ∙ ap (slice_index path) e ∙ last) in
        (omega (arith, old.0, apart), old.1))
        (left-cases m)

    pub IsSearch-leave : IsSearch count edges left rest (take (length path - 1) path) (order ++ node ∷ [])
    IsSearch-leave = record {
      state_each = length-set states node (Ranked (length order)) ∙ search.state_each;
      rest_each = search.rest_each;
      rest_within = search.rest_within;
      rest_leads = search.rest_leads;
      seen = λ k h behind. let ranked = search.seen k h behind in rw (left-stays _ ranked) ranked;
      grow = left-grows;
      placed = left-placed;
      path_nodes = λ k h. let low : k < length path - 1 = omega (arith, path_length) in rw (path_before k low) (left-path k low);
      path_places = λ m k h at. let old = left-places m k h at in (omega (arith, path_length, old.0), path_before k old.0 ∙ old.1);
      path_steps = λ k h.
          let low : k + 1 < length path - 1 = omega (arith, path_length) in
          rw (path_before k (omega arith), path_before (k + 1) low) (search.path_steps k (omega arith));
      ordered = λ k h. ⊎_elim
          (λ here. rw here.1 last_node.0)
          (λ before. rw before.1 (search.ordered k before.0))
          (slice_index-push order node k h);
      total =
          let counts = new_count-same states node (Ranked (length order)) in_states' (ap is_new last_node.1) refl in
          omega (arith, search.total, path_length, length_push order node);
    }

  -- the last edge into a node that may not come from a ranked node comes from one
  module _ (node earlier : ℕ) (low : node < count) (some : 0 < slice_index rest node)
      (ranked : IsTrue (is_ranked (state_of states (edge_at edges (slice_index rest node - 1)).0)))
      (before : IsLastInto edges (edge_at edges (slice_index rest node - 1)).1 (slice_index rest node - 1) earlier) where
    rest-cases : (m : ℕ) → ((m ≡ node) × (slice_index (set rest node earlier) m ≡ earlier))
        ⊎ ((m ≡ node → ⊥) × (slice_index (set rest node earlier) m ≡ slice_index rest m))
    rest-cases m = ⊎_elim
        (λ (same : m ≡ node). inl (same, ap (slice_index (set rest node earlier)) same ∙ get_or-set_same rest node earlier 0 (omega (arith, search.rest_each))))
        (λ (apart : m ≡ node → ⊥). inr (apart, get_or-set_other rest node m earlier 0 apart))
        (cases_eq m node)

    leads : (edge_at edges (slice_index rest node - 1)).1 ≡ node
    leads = search.rest_leads node low some

    -- an edge into the node, from that edge on or between it and the earlier one
    seen-here : (k : ℕ) → k < length edges → (edge_at edges k).1 ≡ node → earlier ≤ k → IsTrue (is_ranked (state_of states (edge_at edges k).0))
    seen-here k h to_node from = ⊎_elim
        (λ (same : k ≡ slice_index rest node - 1). rw (sym same) at ranked)
        (λ (apart : k ≡ slice_index rest node - 1 → ⊥). ⊎_elim
        (λ (below : k < slice_index rest node). absurd (before.none_between k from (omega arith) (to_node ∙ sym leads)))
        (λ (above : slice_index rest node ≤ k). let e : slice_index rest (edge_at edges k).1 ≡ slice_index rest node = ap (slice_index rest) to_node in
        search.seen k h (omega arith))
        (cases_lt k (slice_index rest node)))
        (cases_eq k (slice_index rest node - 1))

    pub IsSearch-skip : IsSearch count edges states (set rest node earlier) path order
    IsSearch-skip = record {
      state_each = search.state_each;
      rest_each = length-set rest node earlier ∙ search.rest_each;
      rest_within = λ m h. ⊎_elim
          (λ here. rw here.1 (omega (arith, before.within, search.rest_within node low)))
          (λ other. rw other.1 (search.rest_within m h))
          (rest-cases m);
      rest_leads = λ m h positive. ⊎_elim
          (λ here. rw here.1 (before.leads (rw here.1 at positive) ∙ leads ∙ sym here.0))
          (λ other. rw other.1 (search.rest_leads m h (rw other.1 at positive)))
          (rest-cases m);
      seen = λ k h behind. ⊎_elim
          (λ here. seen-here k h here.0 (rw here.1 at behind))
          (λ other. search.seen k h (rw other.1 at behind))
          (rest-cases (edge_at edges k).1);
      grow = search.grow;
      placed = search.placed;
      path_nodes = search.path_nodes;
      path_places = search.path_places;
      path_steps = search.path_steps;
      ordered = search.ordered;
      total = search.total;
    }

  -- an edge into the last node of the path, from a node of the path, closes a walk
  module _ (node place : ℕ) (some : 0 < length path) (last : slice_index path (length path - 1) ≡ node) (positive : 0 < slice_index rest node)
      (joins : JoinsNodes count edges)
      (on_path : state_of states (edge_at edges (slice_index rest node - 1)).0 ≡ OnPath place) where
    abbrev source : ℕ
    source = (edge_at edges (slice_index rest node - 1)).0

    node_low : node < count
    node_low = (rw last at (search.path_nodes (length path - 1) (omega arith))).0

    edge_low : slice_index rest node - 1 < length edges
    edge_low = omega (arith, search.rest_within node node_low)

    source_place : (place < length path) × (slice_index path place ≡ source)
    source_place = search.path_places source place (joins (slice_index rest node - 1) (0, 0) edge_low).0 on_path

    abbrev walk : List ℕ
    walk = reverse (drop place path)

    walk_length : length walk ≡ length path - place
    walk_length = length-reverse (drop place path) ∙ length-drop place path

    walk_at : (k : ℕ) → k < length walk → slice_index walk k ≡ slice_index path (length path - 1 - k)
    walk_at k h =
        let dropped = length-drop place path in
        let low : k < length (drop place path) = omega (arith, walk_length) in
        let e : place + (length (drop place path) - 1 - k) ≡ length path - 1 - k = omega (arith, source_place.0) in
        get_or-reverse (drop place path) k 0 low ∙ get_or-drop place path (length (drop place path) - 1 - k) 0 ∙ ap (slice_index path) e

    closing : HasEdge edges source node
    closing =
        let e : edge_at edges (slice_index rest node - 1) ≡ (source, node) = ap (λ n. (source, n)) (search.rest_leads node node_low positive) in
        (slice_index rest node - 1, edge_low, get_or_default edges (slice_index rest node - 1) (source, node) (0, 0) edge_low ∙ e)

    pub IsClosedWalk-found : IsClosedWalk edges walk
    IsClosedWalk-found = record {
      some_node = omega (arith, walk_length, source_place.0);
      steps = λ k h.
          let step = search.path_steps (length path - 1 - (k + 1)) (omega (arith, walk_length)) in
          let e : length path - 1 - (k + 1) + 1 ≡ length path - 1 - k = omega (arith, walk_length) in
          rw (walk_at k (omega arith), walk_at (k + 1) h) (rw e at step);
      closes =
          let high : length walk - 1 < length walk = omega (arith, walk_length, source_place.0) in
          let zero_low : 0 < length walk = omega arith in
          let e : length path - 1 - (length walk - 1) ≡ place = omega (arith, walk_length, source_place.0) in
          let first : slice_index walk (length walk - 1) ≡ source = walk_at (length walk - 1) high ∙ ap (slice_index path) e ∙ source_place.1 in
          let z : length path - 1 - 0 ≡ length path - 1 = omega arith in
          let end : slice_index walk 0 ≡ node = walk_at 0 zero_low ∙ ap (slice_index path) z ∙ last in
          rw (first, end) closing;
    }

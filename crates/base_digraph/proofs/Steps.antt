-- Each step of a search keeps what a search is, and leaves less to do.
use Rattle.std.proofs.Common.{◌≡◌, ℕ, ◌-◌, ◌<◌, ◌≤◌, true, false, List, [], length, drop, reverse, slice_index, slice_index_or, set, refl, ap, sym, ◌∙◌, arith}
use Rattle.std.proofs.Common.{IsTrue, get_or-set_same}
use Rattle.std.proofs.lemmas.Bool.{false≢true}
use Rattle.std.proofs.lemmas.List.{length_push, length-take-le, get_or_read, get_or_default}
use Rattle.std.proofs.lemmas.List.Sums.{sum_by-set}
use Rattle.base_digraph.specs.declared.search.State.{State}
use Rattle.base_digraph.specs.declared.search.State.TheVariants.{New, OnPath, Ranked}
use Rattle.base_digraph.specs.declared.search.Search.{Search}
use Rattle.base_digraph.specs.Walks.{HasEdge, JoinsNodes, IsClosedWalk}
use Rattle.base_digraph.specs.Searches.{edge_at, IsLastInto, state_of, is_new, is_ranked, IsSearchOf, Enters, Leaves, StepsOn}
use Rattle.base_digraph.proofs.Searching.{StaysMet-set, new_count-met, new_count-same, IsSearch-enter, IsSearch-leave, IsSearch-skip, IsClosedWalk-found}

-- what is read at the last node of the path
pub record IsRestOf (edges : List (ℕ × ℕ)) (old : Search) (node rest : ℕ) : Type 0 where
  pub node_low : node < length old.states.items
  pub read : rest ≡ slice_index old.rest.items node
  pub within : rest ≤ length edges

pub IsRestOf-read : (edges : List (ℕ × ℕ)) (old : Search) (node rest : ℕ) → IsSearchOf (length old.states.items) edges old → 0 < length old.path.items →
    slice_index old.path.items (length old.path.items - 1) ≡ node
    → rest ≡ slice_index_or old.rest.items node rest → IsRestOf edges old node rest
IsRestOf-read edges old node rest search some last at =
    let low = (rw last at (search.path_nodes (length old.path.items - 1) (omega arith))).0 in
    let read : rest ≡ slice_index old.rest.items node = get_or_read old.rest.items node rest (omega (arith, search.rest_each)) at 0 in
    record { node_low = low; read = read; within = omega (arith, search.rest_within node low) }

-- the state that is read at the beginning of an edge
pub state_of-read : (edges : List (ℕ × ℕ)) (states : List State) (k : ℕ) (x s : State) → JoinsNodes (length states) edges → k < length edges →
    x ≡ slice_index_or states (edge_at edges k).0 x → x ≡ s → state_of states (edge_at edges k).0 ≡ s
state_of-read edges states k x s joins low at is = sym (get_or_read states (edge_at edges k).0 x (joins k (0, 0) low).0 at New) ∙ is

-- the edge before the rest of a node is an edge into it
pub HasEdge-rest : (edges : List (ℕ × ℕ)) (old : Search) (node rest : ℕ) → IsSearchOf (length old.states.items) edges old → IsRestOf edges old node rest →
    0 < rest → HasEdge edges (edge_at edges (rest - 1)).0 node
HasEdge-rest edges old node rest search at positive =
    let low : rest - 1 < length edges = omega (arith, at.within) in
    let leads = rw (sym at.read) at (search.rest_leads node at.node_low (omega (arith, at.read))) in
    let from = (edge_at edges (rest - 1)).0 in
    let e : edge_at edges (rest - 1) ≡ (from, node) = ap (λ n. (from, n)) leads in
    (rest - 1, low, get_or_default edges (rest - 1) (from, node) (0, 0) low ∙ e)

module _ (edges : List (ℕ × ℕ)) (old new : Search) (search : IsSearchOf (length old.states.items) edges old) where
  pub StepsOn-enter : (node : ℕ) → node < length old.states.items → state_of old.states.items node ≡ New →
      (0 < length old.path.items → HasEdge edges node (slice_index old.path.items (length old.path.items - 1)))
      → Enters old new node → StepsOn edges old new
  StepsOn-enter node low unmet joined enters =
      let s = old.states.items in
      record {
        search = rw (enters.states, enters.rest, enters.path, enters.order)
            (IsSearch-enter _ edges s old.rest.items old.path.items old.order.items search node low unmet joined);
        stays = rw enters.states (StaysMet-set s node (OnPath (length old.path.items)) low refl);
        nearer =
            let fewer = new_count-met s node (OnPath (length old.path.items)) low unmet refl in
            let longer = length_push old.path.items node in
            rw (enters.states, enters.rest, enters.path) (omega arith);
      }

  pub StepsOn-leave : (node : ℕ) → 0 < length old.path.items → slice_index old.path.items (length old.path.items - 1) ≡ node →
      slice_index old.rest.items node ≡ 0 → JoinsNodes (length old.states.items) edges
      → Leaves old new node → StepsOn edges old new
  StepsOn-leave node some last done joins leaves =
      let s = old.states.items in
      let at = rw last at (search.path_nodes (length old.path.items - 1) (omega arith)) in
      record {
        search = rw (leaves.states, leaves.rest, leaves.path, leaves.order)
            (IsSearch-leave _ edges s old.rest.items old.path.items old.order.items search node some last done joins);
        stays = rw leaves.states (StaysMet-set s node (Ranked (length old.order.items)) at.0 refl);
        nearer =
            let same = new_count-same s node (Ranked (length old.order.items)) at.0 (ap is_new at.1) refl in
            let shorter = length-take-le (length old.path.items - 1) old.path.items (omega arith) in
            rw (leaves.states, leaves.rest, leaves.path) (omega arith);
      }

  pub StepsOn-skip : (node rest earlier : ℕ) → 0 < length old.path.items → slice_index old.path.items (length old.path.items - 1) ≡ node →
      rest ≡ slice_index old.rest.items node → 0 < rest → IsTrue (is_ranked (state_of old.states.items (edge_at edges (rest - 1)).0))
      → IsLastInto edges (edge_at edges (rest - 1)).1 (rest - 1) earlier
      → new.states.items ≡ old.states.items → new.path.items ≡ old.path.items → new.order.items ≡ old.order.items →
      new.rest.items ≡ set old.rest.items node earlier → StepsOn edges old new
  StepsOn-skip node rest earlier some last at positive ranked before states path order rests =
      let low = (rw last at (search.path_nodes (length old.path.items - 1) (omega arith))).0 in
      let fewer = sum_by-set (λ x. x) old.rest.items node earlier 0 (omega (arith, search.rest_each)) in
      record {
        search = rw (states, rests, path, order) (IsSearch-skip _ edges old.states.items old.rest.items old.path.items old.order.items search node earlier low
            (rw at at positive) (rw at at ranked) (rw at at before));
        stays = rw states (record { met = λ m was. was });
        nearer = rw (states, rests, path) (omega (arith, before.within));
      }

-- an edge into the last node of the path comes from this place of the path
module _ (edges : List (ℕ × ℕ)) (old : Search) (search : IsSearchOf (length old.states.items) edges old) (node rest place : ℕ)
    (at : IsRestOf edges old node rest) (positive : 0 < rest)
    (joins : JoinsNodes (length old.states.items) edges) (on_path : state_of old.states.items (edge_at edges (rest - 1)).0 ≡ OnPath place) where
  pub place_within : place ≤ length old.path.items
  place_within = let placed = search.path_places _ place (joins (rest - 1) (0, 0) (omega (arith, at.within))).0 on_path in omega (arith, placed.0)

  pub IsClosedWalk-at : 0 < length old.path.items → slice_index old.path.items (length old.path.items - 1) ≡ node →
      IsClosedWalk edges (reverse (drop place old.path.items))
  IsClosedWalk-at some last =
      IsClosedWalk-found _ edges old.states.items old.rest.items old.path.items old.order.items search node place some last (rw at.read at positive) joins
      (rw at.read at on_path)

is_new-true : (s : State) → is_new s ≡ true → s ≡ New
is_new-true New met = refl
is_new-true (OnPath k) met = absurd (false≢true met)
is_new-true (Ranked r) met = absurd (false≢true met)

-- a search enters a new root
module _ (edges : List (ℕ × ℕ)) (old new : Search) (root : ℕ) (x : State) (low : root < length old.states.items) (enters : Enters old new root) where
  pub StepsOn-root : IsSearchOf (length old.states.items) edges old → old.path.items ≡ [] → x ≡ slice_index_or old.states.items root x → is_new x ≡ true →
      StepsOn edges old new
  StepsOn-root search between at unmet =
      let is : state_of old.states.items root ≡ New = sym (get_or_read old.states.items root x low at New) ∙ is_new-true x unmet in
      StepsOn-enter edges old new search root low is (λ some. let none = ap (length {A = ℕ}) between in absurd (omega arith)) enters

  pub root_met : is_new (state_of new.states.items root) ≡ false
  root_met = ap (λ (s : List State). is_new (state_of s root)) enters.states
      ∙ ap is_new (get_or-set_same old.states.items root (OnPath (length old.path.items)) New low)

-- Inner: how far a search against the edges has come.
use Rattle.std.specs.Prelude.{◌≡◌, ◌≢◌, ℕ, ◌+◌, ◌-◌, ◌*◌, ◌<◌, ◌≤◌, Bool, true, false, List, [], ◌∷◌, ◌++◌, length}
use Rattle.std.specs.Prelude.{take, slice_index, slice_index_or, slice_set, replicate, IsTrue, sum, count_by}
use Rattle.base_digraph.specs.declared.search.State.{State}
use Rattle.base_digraph.specs.declared.search.State.TheVariants.{New, OnPath, Ranked}
use Rattle.base_digraph.specs.declared.search.Search.{Search}
use Rattle.base_digraph.specs.Walks.{HasEdge}

-- the edge at a place
abbrev pub edge_at : List (ℕ × ℕ) → ℕ → ℕ × ℕ
edge_at edges k = slice_index_or edges k (0, 0)

-- the last edge into the node in the first edges up to the end, by the number of edges up to it; 0 where there is none
pub record IsLastInto (edges : List (ℕ × ℕ)) (node end last : ℕ) : Type 0 where
  pub within : last ≤ end
  pub leads : 0 < last → (edge_at edges (last - 1)).1 ≡ node
  pub none_between : (k : ℕ) → last ≤ k → k < end → (edge_at edges k).1 ≢ node

-- for each edge the last one before it into the same node
abbrev pub AreEarlier : List (ℕ × ℕ) → List ℕ → Type 0
AreEarlier edges earlier = (k : ℕ) → k < length edges → IsLastInto edges (edge_at edges k).1 k (slice_index earlier k)

-- the last edge into each node, and for each edge the last one before it into the same node
pub record AreLinks (count : ℕ) (edges : List (ℕ × ℕ)) (last earlier : List ℕ) : Type 0 where
  pub nodes : length last ≡ count
  pub places : length earlier ≡ length edges
  pub into : (node : ℕ) → node < count → IsLastInto edges node (length edges) (slice_index last node)
  pub before : AreEarlier edges earlier

abbrev pub state_of : List State → ℕ → State
state_of states node = slice_index_or states node New

abbrev pub is_new : State → Bool
is_new New = true
is_new (OnPath k) = false
is_new (Ranked r) = false

abbrev pub is_ranked : State → Bool
is_ranked New = false
is_ranked (OnPath k) = false
is_ranked (Ranked r) = true

abbrev pub rank_in : State → ℕ
rank_in New = 0
rank_in (OnPath k) = 0
rank_in (Ranked r) = r

-- The nodes on the path are a walk against the edges. After the rest of a node, which counts edges from the first on,
-- each edge into it comes from a ranked node, and a ranked node has such edges alone, from lower ranks.
pub record IsSearch (count : ℕ) (edges : List (ℕ × ℕ)) (states : List State) (rest path order : List ℕ) : Type 0 where
  pub state_each : length states ≡ count
  pub rest_each : length rest ≡ count
  pub rest_within : (node : ℕ) → node < count → slice_index rest node ≤ length edges
  pub rest_leads : (node : ℕ) → node < count → 0 < slice_index rest node
      → (edge_at edges (slice_index rest node - 1)).1 ≡ node
  pub seen : (k : ℕ) → k < length edges → slice_index rest (edge_at edges k).1 ≤ k
      → IsTrue (is_ranked (state_of states (edge_at edges k).0))
  pub grow : (k : ℕ) → k < length edges → IsTrue (is_ranked (state_of states (edge_at edges k).1))
      → IsTrue (is_ranked (state_of states (edge_at edges k).0))
      × (rank_in (state_of states (edge_at edges k).0) < rank_in (state_of states (edge_at edges k).1))
  pub placed : (node : ℕ) → node < count → IsTrue (is_ranked (state_of states node))
      → (rank_in (state_of states node) < length order) × (slice_index order (rank_in (state_of states node)) ≡ node)
  pub path_nodes : (k : ℕ) → k < length path
      → (slice_index path k < count) × (state_of states (slice_index path k) ≡ OnPath k)
  pub path_places : (node k : ℕ) → node < count → state_of states node ≡ OnPath k
      → (k < length path) × (slice_index path k ≡ node)
  pub path_steps : (k : ℕ) → k + 1 < length path → HasEdge edges (slice_index path (k + 1)) (slice_index path k)
  pub ordered : (k : ℕ) → k < length order → slice_index order k < count
  pub total : length order + length path + count_by is_new states ≡ count

-- a search that has met no node
pub record IsFresh (count : ℕ) (last : List ℕ) (s : Search) : Type 0 where
  pub states : s.states.items ≡ replicate count New
  pub rest : s.rest.items ≡ last
  pub path : s.path.items ≡ []
  pub order : s.order.items ≡ []

abbrev pub IsSearchOf : ℕ → List (ℕ × ℕ) → Search → Type 0
IsSearchOf count edges s = IsSearch count edges s.states.items s.rest.items s.path.items s.order.items

-- what is left to do: it grows less with each step
abbrev pub work_of : Search → ℕ
work_of s = sum s.rest.items + 2 * count_by is_new s.states.items + length s.path.items

-- a node is put at the end of the path
pub record Enters (old new : Search) (node : ℕ) : Type 0 where
  pub states : new.states.items ≡ slice_set old.states.items node (OnPath (length old.path.items))
  pub path : new.path.items ≡ old.path.items ++ node ∷ []
  pub rest : new.rest.items ≡ old.rest.items
  pub order : new.order.items ≡ old.order.items

-- a node is taken from the end of the path and ranked
pub record Leaves (old new : Search) (node : ℕ) : Type 0 where
  pub states : new.states.items ≡ slice_set old.states.items node (Ranked (length old.order.items))
  pub path : new.path.items ≡ take (length old.path.items - 1) old.path.items
  pub rest : new.rest.items ≡ old.rest.items
  pub order : new.order.items ≡ old.order.items ++ node ∷ []

-- a node that was met stays met
pub record StaysMet (old new : List State) : Type 0 where
  pub met : (node : ℕ) → is_new (state_of old node) ≡ false → is_new (state_of new node) ≡ false

-- the search has come nearer to its end, and has met every node that it had met before
pub record StepsOn (edges : List (ℕ × ℕ)) (old new : Search) : Type 0 where
  pub search : IsSearchOf (length old.states.items) edges new
  pub stays : StaysMet old.states.items new.states.items
  pub nearer : work_of new < work_of old

-- the search has ended with an empty path, and has met the root and every node that it had met before
pub record EndsSearch (edges : List (ℕ × ℕ)) (old new : Search) (root : ℕ) : Type 0 where
  pub search : IsSearchOf (length old.states.items) edges new
  pub path : new.path.items ≡ []
  pub stays : StaysMet old.states.items new.states.items
  pub root_met : is_new (state_of new.states.items root) ≡ false

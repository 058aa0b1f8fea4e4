-- Inner: the least members of shared instances and of shared wires: instances that are one stand side by side.
use Rattle.std.specs.Prelude.{◌≡◌, ℕ, ◌+◌, ◌<◌, ◌≤◌, Bool, false, ◌==◌, ◌&&◌, if◌then◌else◌, List, [], ◌∷◌, length, map}
use Rattle.std.specs.Prelude.{slice_index, slice_index_or, Contains, MatchOption, Option, ⊤}
use Rattle.base_types.specs.declared.indices.InstId.{InstId}
use Rattle.base_types.specs.declared.indices.WireId.{WireId}
use Rattle.grc_graph.specs.declared.instances.Instance as stored
use Rattle.grc_graph.specs.Instances.{Instance}
use Rattle.grc_graph.specs.Layers.{Layer, Resumed, Started}
use Rattle.grc_graph.specs.PlainGraphs.{wire_at}
use Rattle.grc_graph.specs.PlainInstances.{instance_of}
use Rattle.grc_graph.specs.Wires.{Wire, StatusOf}
use Rattle.grc_graph.specs.WireTables.{IsNumberOf}
use Rattle.grc_share.specs.SharedInstances.{Sharing, key}
use Rattle.grc_share.specs.SharedWires.{shared_layer, shared_wire}

-- both are starts, and one
abbrev pub one_start : Sharing → Layer → Layer → Bool
one_start K Resumed l = false
one_start K (Started q) Resumed = false
one_start K (Started q) (Started r) = K.root q == K.root r

abbrev pub starts_as : Sharing → Instance → Instance → Bool
starts_as K x y = x.path == y.path && one_start K x.layer y.layer

-- the instance that names the shared instance of one
abbrev pub shared_of : Sharing → Instance → Instance
shared_of K x = record { path = x.path; layer = shared_layer K x.path x.layer }

-- this is the number of the instance that names that of the instance with the number i
abbrev pub IsLeastMember : Sharing → List stored.Instance → ℕ → InstId → Type 0
IsLeastMember K insts i k =
    (x : stored.Instance)
    → IsNumberOf (map instance_of insts) k.0 (shared_of K (instance_of (slice_index_or insts i x)))

-- these are the numbers of the instances that name those of the first instances, one for each
abbrev pub AreLeast : Sharing → List stored.Instance → List InstId → Type 0
AreLeast K insts least =
    (i : ℕ) (d : InstId) → i < length least → IsLeastMember K insts i (slice_index_or least i d)

-- these are the numbers of the wires that name those of the first wires, one for each
abbrev pub AreLeastWires : Sharing → List Wire → List WireId → Type 0
AreLeastWires K names least =
    (w : ℕ) (d : WireId) → w < length least
    → IsNumberOf names (slice_index_or least w d).0 (shared_wire K (wire_at names w))

-- the root of a start is one of so many statements
abbrev pub RootIn : ℕ → Layer → Type 0
RootIn count Resumed = ⊤
RootIn count (Started r) = r < count

-- the numbers in a list that stand at their own place, where the first has the place i
abbrev pub leaders : ℕ → List WireId → List WireId
leaders i [] = []
leaders i (w ∷ ws) = if w.0 == i then w ∷ leaders (i + 1) ws else leaders (i + 1) ws

-- what a number of a list stands for stands for itself
abbrev pub Settled : List WireId → Type 0
Settled members =
    (w : ℕ) (d : WireId) → w < length members
    → slice_index_or members (slice_index_or members w d).0 d ≡ slice_index_or members w d

-- The places of those that stand for themselves, as far as to a place, among these.
pub record ArePlaces (members : List WireId) (end : ℕ) (least : List WireId) (places : List ℕ) : Type 0 where
  pub each : length places ≡ end
  pub few : length least ≤ end
  pub within : (w : ℕ) (d : WireId) → w < end → (slice_index_or members w d).0 ≡ w → slice_index places w < length least
  pub same : (w : ℕ) (d : WireId) → w < end → (slice_index_or members w d).0 ≡ w
      → slice_index_or least (slice_index places w) d ≡ slice_index_or members w d

-- what a search for the resumed status that an instance has in common answers: its number, or none where there is none
abbrev pub HasResumedStatus : Sharing → List Wire → Instance → Option WireId → Type 0
HasResumedStatus K names x r =
    MatchOption r (K.resumed x.path ≡ key K x.path x.layer → ¬ Contains names (StatusOf x.path Resumed))
    (λ w. (K.resumed x.path ≡ key K x.path x.layer) × IsNumberOf names w.0 (StatusOf x.path Resumed))

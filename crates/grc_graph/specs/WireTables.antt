-- Inner: tables of live instances and of wires, which are read by name.
use Rattle.std.specs.Prelude.{◌≡◌, ℕ, ◌+◌, ◌<◌, ◌≤◌, ◌^◌, Bool, true, false, ◌==◌, ◌&&◌, ◌||◌, nat_lt, if◌then◌else◌}
use Rattle.std.specs.Prelude.{List, [], ◌∷◌, ◌++◌, length, map, slice_index, slice_index_or, Option, Some, None}
use Rattle.std.specs.Prelude.{MatchOption, Contains}
use Rattle.std.specs.List.Sorted.{IsPartitionPoint}
use Rattle.base_types.specs.declared.indices.InstId.{InstId}
use Rattle.base_types.specs.declared.indices.WireId.{WireId}
use Rattle.est_kernel.specs.Terms.{Term, Nothing, Pause, Emit, Exit, Present, Suspend, Seq, Loop, Par, Trap, Local}
use Rattle.est_kernel.specs.Terms.{Awake}
use Rattle.grc_graph.specs.declared.instances.Instance.{Instance}
use Rattle.grc_graph.specs.declared.wires.Wire.{Wire}
use Rattle.grc_graph.specs.declared.wires.Wire.TheVariants as wires
use Rattle.grc_graph.specs.Instances as plain
use Rattle.grc_graph.specs.Layers as layers
use Rattle.grc_graph.specs.PlainInstances.{instance_of}
use Rattle.grc_graph.specs.Wires as names

-- what is in a list has this number
pub record IsNumberOf {A : Type 0} (xs : List A) (i : ℕ) (x : A) : Type 0 where
  pub within : i < length xs
  pub same : (d : A) → slice_index_or xs i d ≡ x

-- what a search for an instance answers: its number, or none where it is not in the list
abbrev pub HasInstance : List plain.Instance → Option InstId → plain.Instance → Type 0
HasInstance xs r x = MatchOption r (¬ Contains xs x) (λ i. IsNumberOf xs i.0 x)

-- what a search for a wire answers: its number, or none where it is not in the list
abbrev pub HasName : List names.Wire → Option WireId → names.Wire → Type 0
HasName xs r u = MatchOption r (¬ Contains xs u) (λ w. IsNumberOf xs w.0 u)

-- whether a layer, or an instance, comes before another in the order of the graph
abbrev pub layer_before : layers.Layer → layers.Layer → Bool
layer_before layers.Resumed layers.Resumed = false
layer_before layers.Resumed (layers.Started r) = true
layer_before (layers.Started q) layers.Resumed = false
layer_before (layers.Started q) (layers.Started r) = nat_lt q r

abbrev pub comes_before : plain.Instance → plain.Instance → Bool
comes_before x y = nat_lt x.path y.path || (x.path == y.path && layer_before x.layer y.layer)

abbrev pub Ascending : List Instance → Type 0
Ascending insts = (i j : ℕ) (d : Instance) → i < j → j < length insts
    → comes_before (instance_of (slice_index_or insts i d)) (instance_of (slice_index_or insts j d)) ≡ true

-- the instances before this place come before another, and those from there on do not
abbrev pub SplitsAt : plain.Instance → List Instance → ℕ → Type 0
SplitsAt x insts p =
    IsPartitionPoint (λ y. comes_before (instance_of y) x ≡ true) (λ y. comes_before (instance_of y) x ≡ false) insts p

-- the instance that a wire is of
abbrev pub owner : Wire → Option ℕ
owner (wires.Go i) = Some i.0
owner (wires.End i k) = Some i.0
owner (wires.Local i) = Some i.0
owner (wires.Out s) = None

-- The wires of so many instances: those of instance i stand from first i on, and its `go` is the first of them.
pub record AreRuns (count : ℕ) (list : List Wire) (first : List ℕ) : Type 0 where
  pub each : length first ≡ count + 1
  pub last : slice_index first count ≡ length list
  pub runs : (i : ℕ) → i < count → slice_index first i < slice_index first (i + 1)
  pub within : (i : ℕ) → i < count → slice_index first (i + 1) ≤ length list
  pub go : (i : ℕ) (d : Wire) → i < count → slice_index_or list (slice_index first i) d ≡ wires.Go (record { 0 = i })
  pub own_in : (w i : ℕ) (d : Wire) → w < length list → owner (slice_index_or list w d) ≡ Some i → i < count
  pub own_from : (w i : ℕ) (d : Wire) → w < length list → owner (slice_index_or list w d) ≡ Some i
      → slice_index first i ≤ w
  pub own_below : (w i : ℕ) (d : Wire) → w < length list → owner (slice_index_or list w d) ≡ Some i
      → w < slice_index first (i + 1)

-- The outgoing signals come first, in order.
pub record AreOutgoing (inputs outgoing : ℕ) (list : List Wire) : Type 0 where
  pub within : outgoing ≤ length list
  pub out : (k : ℕ) (d : Wire) → k < outgoing → slice_index_or list k d ≡ wires.Out (record { 0 = inputs + k })
  pub own_out : (w s : ℕ) (d : Wire) → w < length list → slice_index_or list w d ≡ wires.Out (record { 0 = s })
      → w < outgoing

pub record AreNeighbours (insts : List Instance) (list : List Wire) (first : List ℕ)
    (inputs outgoing : ℕ) : Type 0 where
  pub ascend : Ascending insts
  pub few : length list < 2 ^ 32
  pub few_instances : length insts < 2 ^ 32
  pub interface : inputs + outgoing < 2 ^ 32
  pub runs : AreRuns (length insts) list first
  pub outs : AreOutgoing inputs outgoing list

-- each instance is of one of so many statements
abbrev pub AreBelow : ℕ → List Instance → Type 0
AreBelow count insts = (i : ℕ) (d : Instance) → i < length insts → (slice_index_or insts i d).path.0 < count

-- the instances before this place are of statements before this one, and those from there on are not
abbrev pub SplitsAtStatement : ℕ → List Instance → ℕ → Type 0
SplitsAtStatement n insts p =
    IsPartitionPoint (λ x. nat_lt x.path.0 n ≡ true) (λ x. nat_lt x.path.0 n ≡ false) insts p

-- for each number of a statement how many instances are of statements before it
pub record AreCountsBefore (insts : List Instance) (firsts : List ℕ) : Type 0 where
  pub within : (n : ℕ) → n < length firsts → slice_index firsts n ≤ length insts
  pub splits : (n : ℕ) → n < length firsts → SplitsAtStatement n insts (slice_index firsts n)

-- the first instance of each statement, and one more number after the last statement
pub record AreFirsts (insts : List Instance) (firsts : List ℕ) : Type 0 where
  pub counts : AreCountsBefore insts firsts
  pub all : (i : ℕ) (d : Instance) → i < length insts → (slice_index_or insts i d).path.0 + 1 < length firsts

-- the wires of the instance with the number i, with a status wire or not, and an end for each of these codes
abbrev pub wire_run : Bool → (ℕ → Bool) → ℕ → List Wire
wire_run b A i =
    wires.Go (record { 0 = i })
    ∷ ((if b then wires.Local (record { 0 = i }) ∷ [] else [])
    ++ map (λ k. wires.End (record { 0 = i }) k) (names.listed A))

abbrev pub is_local : Term → Bool
is_local Nothing = false
is_local Pause = false
is_local (Emit s) = false
is_local (Exit k) = false
is_local (Present e p q) = false
is_local (Suspend e p) = false
is_local (Seq p q) = false
is_local (Loop at p) = false
is_local (Par p q) = false
is_local (Trap p) = false
is_local (Local s p) = true
is_local (Awake e p) = false

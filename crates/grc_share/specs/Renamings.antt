-- Inner: formulas, wires and nodes over the numbers of shared instances and wires.
use Rattle.std.specs.Prelude.{◌≡◌, ℕ, ◌<◌, Bool, true, false, not, ◌==◌, if◌then◌else◌, List, [], ◌∷◌, ◌++◌, length}
use Rattle.std.specs.Prelude.{map, slice_index, slice_index_or, All, IsTrue, MatchOption, Option}
use Rattle.base_types.specs.declared.indices.InstId.{InstId}
use Rattle.base_types.specs.declared.indices.WireId.{WireId}
use Rattle.est_kernel.specs.Plain.{Program, program_of}
use Rattle.est_kernel.specs.Terms.{Nothing}
use Rattle.grc_graph.specs.declared.formulas.Formula as stored
use Rattle.grc_graph.specs.declared.formulas.Formula.TheVariants as formulas
use Rattle.grc_graph.specs.declared.graph.Graph.{Graph}
use Rattle.grc_graph.specs.declared.instances.Instance as listed
use Rattle.grc_graph.specs.declared.wires.Node.{Node}
use Rattle.grc_graph.specs.Formulas.{Formula, Const, Boot, Input, Value, Selected, Upto, Kept, Held, Negation}
use Rattle.grc_graph.specs.Formulas.{Conjunction, Disjunction}
use Rattle.grc_graph.specs.GraphRuns.{graph_of, program_spots}
use Rattle.grc_graph.specs.GraphShapes.{formula_fits, node_fits}
use Rattle.grc_graph.specs.Instances.{Instance}
use Rattle.grc_graph.specs.Layers.{Layer, Resumed, Started}
use Rattle.grc_graph.specs.Nodes as plain_nodes
use Rattle.grc_graph.specs.PlainGraphs.{formula_of, instance_at, instances_of, names_of, node_form, wire_at}
use Rattle.grc_graph.specs.PlainInstances.{instance_of}
use Rattle.grc_graph.specs.Rows.{program_rows, row_at}
use Rattle.grc_graph.specs.Scopes.{Unbound}
use Rattle.grc_graph.specs.Spots.{Spot}
use Rattle.grc_graph.specs.Wires.{Wire, Out, Go, StatusOf, End}
use Rattle.grc_graph.specs.WireTables.{IsNumberOf}
use Rattle.grc_share.specs.LeastMembers.{AreLeast, shared_of}
use Rattle.grc_share.specs.SharedGraphs.{emits_on, formula_for, go_value, has_own, is_guarded, is_least, names_itself}
use Rattle.grc_share.specs.SharedGraphs.{renamed, renamed_node, shared_emissions, shared_formula, shared_instances}
use Rattle.grc_share.specs.SharedInstances.{Sharing, body_sharing}
use Rattle.grc_share.specs.SharedWires.{shared_layer, shared_wire, shared_wires}

-- ---- instances

-- these are the numbers of the shared instances of the first instances, among the shared ones
abbrev pub AreInstanceNumbers : Sharing → List Instance → List Instance → List InstId → Type 0
AreInstanceNumbers K insts shared numbers =
    (i : ℕ) (d : InstId) → i < length numbers
    → IsNumberOf shared (slice_index_or numbers i d).0 (shared_of K (instance_at insts i))

abbrev pub is_named : Sharing → Instance → Bool
is_named K x = names_itself K x.path x.layer

-- an instance, where it names its shared instance
abbrev pub if_named : Sharing → Instance → List Instance
if_named K x = if is_named K x then x ∷ [] else []

-- the place of each of the first instances that name their shared ones, among those that do
abbrev pub AreOwnPlaces : Sharing → List Instance → List listed.Instance → List ℕ → Type 0
AreOwnPlaces K insts list places =
    (i : ℕ) → i < length places → is_named K (instance_at insts i) ≡ true
    → IsNumberOf (map instance_of list) (slice_index places i) (instance_at insts i)

-- ---- instances and wires

-- The numbers of the shared instances of instances, and of the shared wires of wires, among the shared ones.
pub record AreNumbers (K : Sharing) (insts : List Instance) (names : List Wire) (shared : List Instance)
    (shared_names : List Wire) (instances : List InstId) (wires : List ℕ) : Type 0 where
  pub each_instance : length instances ≡ length insts
  pub each_wire : length wires ≡ length names
  pub instance_numbers : AreInstanceNumbers K insts shared instances
  pub wire_numbers : (w : ℕ) → w < length wires
      → IsNumberOf shared_names (slice_index wires w) (shared_wire K (wire_at names w))

-- those of a graph, beside the least member of each instance's shared one
pub record AreNumbersOf (g : Graph) (least instances : List InstId) (wires : List ℕ) : Type 0 where
  pub each_least : length least ≡ length g.instances.list.items
  pub least_instances : AreLeast (body_sharing (program_of g.program).body) g.instances.list.items least
  pub numbers : AreNumbers (body_sharing (program_of g.program).body) (instances_of g) (names_of g)
      (shared_instances (program_of g.program)) (shared_wires (program_of g.program)) instances wires

-- these are the numbers of the least members of a graph's shared wires, in order
pub record AreLeastMembers (g : Graph) (least : List WireId) : Type 0 where
  pub names : map (λ w. wire_at (names_of g) w.0) least ≡ shared_wires (program_of g.program)
  pub within : All (λ w. w.0 < length g.wires.items) least

-- the least member's number is an instance's own exactly where the instance names its shared one
pub record TellNamed (K : Sharing) (insts : List Instance) (least : List InstId) : Type 0 where
  pub each : length least ≡ length insts
  pub named : (i : ℕ) (d : InstId) → i < length least
      → ((slice_index_or least i d).0 == i) ≡ is_named K (instance_at insts i)

-- a wire with the shared instance in the place of its instance
abbrev pub by_instance : Sharing → Wire → Wire
by_instance K (Out s) = Out s
by_instance K (Go n l) = Go n (shared_layer K n l)
by_instance K (StatusOf n l) = StatusOf n (shared_layer K n l)
by_instance K (End n l k) = End n (shared_layer K n l) k

-- the live instance with a number; one that is out of range, which nothing asks for, is read as a Nothing
abbrev pub spot_in : Program → ℕ → Spot
spot_in p i =
    slice_index_or (program_spots p) i (record {
      statement = Nothing;
      path = 0;
      layer = Resumed;
      scope = λ s. Unbound;
      entry = Const false;
    })

-- the node of the instance with a number, where it names its shared instance
abbrev pub node_at : Program → ℕ → List plain_nodes.Node
node_at p i =
    if is_least (body_sharing p.body) (spot_in p i)
    then renamed_node (body_sharing p.body) (plain_nodes.spot_node (spot_in p i)) ∷ [] else []

-- nodes gain that of the instance with a number, where it names its shared instance
pub record GainsNode (p : Program) (i : ℕ) (old new : List Node) : Type 0 where
  pub gained : map (node_form (shared_instances p) (shared_wires p)) new
      ≡ map (node_form (shared_instances p) (shared_wires p)) old ++ node_at p i
  pub within : All (λ x. IsTrue (node_fits (length (shared_instances p)) (length (shared_wires p)) x)) old
      → All (λ x. IsTrue (node_fits (length (shared_instances p)) (length (shared_wires p)) x)) new

-- ---- formulas

-- a formula that stands for one by names, whose numbers are those of these instances and wires
pub record StandsFor (insts : List Instance) (names : List Wire) (a : Formula) (f : stored.Formula) : Type 0 where
  pub same : formula_of insts names f ≡ a
  pub fits : IsTrue (formula_fits (length insts) (length names) f)

-- over the shared instances and wires of a program
abbrev pub StandsIn : Program → Formula → stored.Formula → Type 0
StandsIn p a f = StandsFor (shared_instances p) (shared_wires p) a f

-- wires by the numbers of their shared ones
abbrev pub renamed_wires : List ℕ → List WireId → List WireId
renamed_wires numbers list = map (λ w. record { 0 = slice_index numbers w.0 }) list

-- the formulas of wires
abbrev pub values : List Wire → List WireId → List Formula
values names list = map (λ v. Value (wire_at names v.0)) list

-- whether the instance with this number names a shared instance that emits on a shared status wire, and its emission
abbrev pub emits_at : Program → Wire → ℕ → Bool
emits_at p w i = emits_on (body_sharing p.body) w (spot_in p i)

abbrev pub emissions_of : Program → Wire → ℕ → List Formula
emissions_of p w i = if emits_at p w i then go_value (spot_in p i) ∷ [] else []

-- the numbers of the `go`s of a shared wire's emissions
pub record AreEmissions (p : Program) (w : Wire) (list : List WireId) : Type 0 where
  pub named : values (shared_wires p) list ≡ shared_emissions p w
  pub within : All (λ w. w.0 < length (shared_wires p)) list

-- numbers gain that of the emission of the instance with a number on a shared wire, where it has one
pub record GainsEmission (p : Program) (i : ℕ) (w : Wire) (old new : List WireId) : Type 0 where
  pub gained : values (shared_wires p) new ≡ values (shared_wires p) old ++ emissions_of p w i
  pub within : All (λ w. w.0 < length (shared_wires p)) old → All (λ w. w.0 < length (shared_wires p)) new

-- the formula of a wire of a graph, by names
abbrev pub formula_at : Graph → ℕ → Formula
formula_at g w = formula_of (instances_of g) (names_of g) (slice_index_or g.equations.items w formulas.Boot)

-- the formula of a shared wire of a program
abbrev pub formula_in : Program → Wire → Formula
formula_in p w = shared_formula p w (formula_for (graph_of p).equations w)

-- these stand for the formulas of a program's shared wires
pub record AreSharedFormulas (p : Program) (list : List stored.Formula) : Type 0 where
  pub each : length list ≡ length (shared_wires p)
  pub stand : (k : ℕ) (d : stored.Formula) → k < length list
      → StandsIn p (formula_in p (wire_at (shared_wires p) k)) (slice_index_or list k d)

-- these say of the first statements whether they are sequences or loops
abbrev pub AreGuards : Program → List Bool → Type 0
AreGuards p list =
    (n : ℕ) (d : Bool) → n < length list
    → slice_index_or list n d ≡ is_guarded (row_at (program_rows p) n).statement

-- whether an instance has another member of its shared instance that is started by itself
abbrev pub own_of : Sharing → ℕ → Layer → Bool
own_of K n Resumed = false
own_of K n (Started r) = has_own K n r

abbrev pub own_in : Sharing → Instance → Bool
own_in K x = own_of K x.path x.layer

-- what a search for another member of a shared instance that is started by itself answers: its number, or none
abbrev pub HasOwnStart : Sharing → List Instance → Instance → Option InstId → Type 0
HasOwnStart K insts x r =
    MatchOption r (own_in K x ≡ false)
    (λ j. (own_in K x ≡ true) × IsNumberOf insts j.0 (record { path = x.path; layer = Started x.path }))

-- ---- the next state

-- whether a formula is of what is kept of a start that names no shared instance
abbrev pub is_kept_other : Sharing → Formula → Bool
is_kept_other K (Const b) = false
is_kept_other K Boot = false
is_kept_other K (Input s) = false
is_kept_other K (Value w) = false
is_kept_other K (Selected n) = false
is_kept_other K (Upto n l k) = false
is_kept_other K (Kept n l) = not (names_itself K n l)
is_kept_other K (Held n l) = false
is_kept_other K (Negation a) = false
is_kept_other K (Conjunction a b) = false
is_kept_other K (Disjunction a b) = false

abbrev pub is_other_start : Sharing → Formula → Bool
is_other_start K (Const b) = false
is_other_start K Boot = false
is_other_start K (Input s) = false
is_other_start K (Value w) = false
is_other_start K (Selected n) = false
is_other_start K (Upto n l k) = false
is_other_start K (Kept n l) = false
is_other_start K (Held n l) = false
is_other_start K (Negation a) = false
is_other_start K (Conjunction a b) = is_kept_other K b
is_other_start K (Disjunction a b) = false

-- what selects a leaf, without the starts that name no shared instance
abbrev pub named_starts : Sharing → Formula → Formula
named_starts K (Const b) = Const b
named_starts K Boot = Boot
named_starts K (Input s) = Input s
named_starts K (Value w) = renamed K (Value w)
named_starts K (Selected n) = Selected n
named_starts K (Upto n l k) = renamed K (Upto n l k)
named_starts K (Kept n l) = renamed K (Kept n l)
named_starts K (Held n l) = renamed K (Held n l)
named_starts K (Negation a) = renamed K (Negation a)
named_starts K (Conjunction a b) = renamed K (Conjunction a b)
named_starts K (Disjunction a b) =
    if is_other_start K a then named_starts K b else Disjunction (renamed K a) (named_starts K b)

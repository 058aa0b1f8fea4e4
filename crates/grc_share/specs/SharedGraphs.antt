-- Contract: the shared graph of a program: its equations and formulas of the next state, over its shared wires.
use Rattle.std.specs.Prelude.{ℕ, Bool, true, false, ◌==◌, ◌&&◌, nat_lt, if◌then◌else◌, List, [], ◌∷◌, ◌++◌, map}
use Rattle.std.specs.Prelude.{filter, Option, None, option_map}
use Rattle.std.specs.List.{list_any}
use Rattle.est_kernel.specs.Plain.{Program, interface_of, interface_count, given_count}
use Rattle.est_kernel.specs.Terms.{Term, Nothing, Pause, Emit, Exit, Present, Suspend, Seq, Loop, Par, Trap, Local}
use Rattle.est_kernel.specs.Terms.{Awake}
use Rattle.grc_graph.specs.Equations.{Equation, is_wire, next_formula}
use Rattle.grc_graph.specs.Formulas.{Formula, Const, Boot, Input, Value, Selected, Upto, Kept, Held, Negation}
use Rattle.grc_graph.specs.Formulas.{Conjunction, Disjunction, any_of}
use Rattle.grc_graph.specs.GraphRuns.{PlainGraph, graph_of, next_state, program_spots}
use Rattle.grc_graph.specs.Instances.{Instance, body_instances}
use Rattle.grc_graph.specs.Layers.{Layer, Resumed, Started, same_layer}
use Rattle.grc_graph.specs.LoopKeys.{lasting}
use Rattle.grc_graph.specs.Nodes.{Node, Fork, Sync, Switch, Tested, Enter, Emission, Definition, Leave, Through}
use Rattle.grc_graph.specs.Nodes.{spot_node}
use Rattle.grc_graph.specs.Readings.{Valuation}
use Rattle.grc_graph.specs.Rows.{program_rows, row_at}
use Rattle.grc_graph.specs.Scopes.{program_scope}
use Rattle.grc_graph.specs.SelectionTrees.{body_leaves}
use Rattle.grc_graph.specs.Spots.{Spot}
use Rattle.grc_graph.specs.Walk.{State}
use Rattle.grc_graph.specs.Wires.{Wire, Out, Go, StatusOf, End, same_wire}
use Rattle.grc_share.specs.SharedInstances.{Sharing, body_sharing}
use Rattle.grc_share.specs.SharedWires.{first_root, shared_layer, shared_layers, shared_wire, shared_wires}

-- a formula whose wires and instances are shared ones
abbrev pub renamed : Sharing → Formula → Formula
renamed K (Const b) = Const b
renamed K Boot = Boot
renamed K (Input s) = Input s
renamed K (Value w) = Value (shared_wire K w)
renamed K (Selected n) = Selected n
renamed K (Upto n l k) = Upto n (shared_layer K n l) k
renamed K (Kept n l) = Kept n (shared_layer K n l)
renamed K (Held n l) = Held n (shared_layer K n l)
renamed K (Negation a) = Negation (renamed K a)
renamed K (Conjunction a b) = Conjunction (renamed K a) (renamed K b)
renamed K (Disjunction a b) = Disjunction (renamed K a) (renamed K b)

-- the status wire on which a node emits
abbrev pub emitted_on : Node → Option Wire
emitted_on (Fork c d l) = None
emitted_on (Sync n l) = None
emitted_on (Switch n l) = None
emitted_on (Tested n l) = None
emitted_on (Enter n l) = None
emitted_on (Emission n l w) = w
emitted_on (Definition n l w) = None
emitted_on (Leave n l k) = None
emitted_on (Through n l) = None

-- an instance that names its shared instance
abbrev pub names_itself : Sharing → ℕ → Layer → Bool
names_itself K n l = same_layer (shared_layer K n l) l

abbrev pub is_least : Sharing → Spot → Bool
is_least K x = names_itself K x.path x.layer

-- the shared instances of a program, in the order of their least members
abbrev pub shared_instances : Program → List Instance
shared_instances p = filter (λ x. names_itself (body_sharing p.body) x.path x.layer) (body_instances p.body)

-- the emissions on a shared status wire: the `go` of each shared instance that emits on one of its members
abbrev pub emits_on : Sharing → Wire → Spot → Bool
emits_on K w x = is_least K x && is_wire (option_map (shared_wire K) (emitted_on (spot_node x))) w

abbrev pub go_value : Spot → Formula
go_value x = Value (Go x.path x.layer)

abbrev pub shared_emissions : Program → Wire → List Formula
shared_emissions p w = map go_value (filter (emits_on (body_sharing p.body) w) (program_spots p))

-- the formula of the first equation for a wire
abbrev pub formula_for : List Equation → Wire → Formula
formula_for [] w = Const false
formula_for (e ∷ es) w = if same_wire e.wire w then e.formula else formula_for es w

-- What lets a shared instance run lets its least member run: all except one of its members are started by one shared
-- instance of the statement around. The one whose root is the statement itself, where it is among them and is not the
-- least, is started by itself.
abbrev pub has_own : Sharing → ℕ → ℕ → Bool
has_own K n r =
    list_any (λ s. s == n) (K.live n).roots
    && (first_root K.root (K.live n).roots n == r && (if n == r then false else true))

abbrev pub shared_go : Program → ℕ → Layer → Formula → Formula
shared_go p n Resumed f = renamed (body_sharing p.body) f
shared_go p n (Started r) f =
    if has_own (body_sharing p.body) n r
    then Disjunction (renamed (body_sharing p.body) f)
    (renamed (body_sharing p.body) (formula_for (graph_of p).equations (Go n (Started n))))
    else renamed (body_sharing p.body) f

-- A sequence and a loop end with what their parts end with, where they run: a part may be one with that of another
-- shared instance, as the second part of a resumed sequence with that of a started one.
abbrev pub is_guarded : Term → Bool
is_guarded Nothing = false
is_guarded Pause = false
is_guarded (Emit s) = false
is_guarded (Exit k) = false
is_guarded (Present e p q) = false
is_guarded (Suspend e p) = false
is_guarded (Seq p q) = true
is_guarded (Loop at p) = true
is_guarded (Par p q) = false
is_guarded (Trap p) = false
is_guarded (Local s p) = false
is_guarded (Awake e p) = false

abbrev pub shared_end : Program → ℕ → Layer → Formula → Formula
shared_end p n l f =
    if is_guarded (row_at (program_rows p) n).statement
    then Conjunction (Value (Go n l)) (renamed (body_sharing p.body) f)
    else renamed (body_sharing p.body) f

-- The formula of a shared wire, from that of its least member.
abbrev pub shared_formula : Program → Wire → Formula → Formula
shared_formula p (Out s) f =
    any_of ((if nat_lt s (given_count p) then Input s ∷ [] else []) ++ shared_emissions p (Out s))
shared_formula p (Go n l) f = shared_go p n l f
shared_formula p (StatusOf n l) f = any_of (shared_emissions p (StatusOf n l))
shared_formula p (End n l k) f = shared_end p n l f

-- the equations of the shared wires
abbrev pub shared_equations : Program → List Equation
shared_equations p =
    map (λ w. record { wire = w; formula = shared_formula p w (formula_for (graph_of p).equations w) }) (shared_wires p)

-- the shared graph of a program
abbrev pub shared_graph : Program → PlainGraph
shared_graph p = record {
  interface = interface_of p;
  scope = program_scope p.inputs (interface_count p);
  body = p.body;
  equations = shared_equations p;
  leaves = body_leaves p.body;
  next = map (λ n. next_formula n (shared_layers (body_sharing p.body) n)) (body_leaves p.body);
  lasting = lasting (body_sharing p.body);
}

-- a node whose wires and instances are shared ones
abbrev pub renamed_node : Sharing → Node → Node
renamed_node K (Fork c d l) = Fork c d (shared_layer K c l)
renamed_node K (Sync n l) = Sync n (shared_layer K n l)
renamed_node K (Switch n l) = Switch n (shared_layer K n l)
renamed_node K (Tested n l) = Tested n (shared_layer K n l)
renamed_node K (Enter n l) = Enter n (shared_layer K n l)
renamed_node K (Emission n l w) = Emission n (shared_layer K n l) (option_map (shared_wire K) w)
renamed_node K (Definition n l w) = Definition n (shared_layer K n l) (shared_wire K w)
renamed_node K (Leave n l k) = Leave n (shared_layer K n l) k
renamed_node K (Through n l) = Through n (shared_layer K n l)

-- what each shared instance is in the control-flow graph
abbrev pub shared_nodes : Program → List Node
shared_nodes p =
    map (λ x. renamed_node (body_sharing p.body) (spot_node x))
    (filter (is_least (body_sharing p.body)) (program_spots p))

-- the state after an instant in which the shared wires have these values
abbrev pub shared_next : Program → State → List Bool → Valuation → State
shared_next p q event V = next_state (shared_graph p) q event V

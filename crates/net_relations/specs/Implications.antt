-- Inner: signed nets, and implications between them.
use Rattle.std.specs.Prelude.{⊤, ◌≡◌, ℕ, ◌<◌, ◌≤◌, Bool, not, ◌&&◌, ◌||◌, if◌then◌else◌, List, length}
use Rattle.std.specs.Prelude.{IsTrue, All, Contains, ◌⊎◌, [], slice_index_or}
use Rattle.base_types.specs.Relations.{Relation, Meets, MeetsAll}
use Rattle.net_ir.specs.Gates.{Solves, carried, op_value, operand_end, value_in}
use Rattle.net_ir.specs.Netlists.{Netlist, first_gate, net_count}
use Rattle.net_ir.specs.declared.netlist.Gate.{Gate}
use Rattle.net_ir.specs.declared.netlist.Op.{Op}
use Rattle.net_relations.specs.declared.implications.Implication.{Implication}
use Rattle.net_relations.specs.declared.implications.Signed.{Signed}
use Rattle.net_relations.specs.declared.implying.View.{View}
use Rattle.net_relations.specs.declared.implying.View.TheVariants.{Leaf, Both, Either}

-- the value of a signed net, where the nets have these values
abbrev pub signed_value : List Bool → Signed → Bool
signed_value values s = if s.negated then not (value_in values s.net.0) else value_in values s.net.0

-- the effect is true where the cause is
abbrev pub Holds : List Bool → Implication → Type 0
Holds values i = IsTrue (signed_value values i.cause) → IsTrue (signed_value values i.effect)

-- both nets have a lower number than this
abbrev pub IsBelow : ℕ → Implication → Type 0
IsBelow count i = (i.cause.net.0 < count) × (i.effect.net.0 < count)

-- an implication of inputs, which holds in each event that meets the relations
pub record IsKept (relations : List Relation) (inputs : ℕ) (i : Implication) : Type 0 where
  pub below : IsBelow inputs i
  pub holds : (event : List Bool) → MeetsAll relations event → Holds event i

-- the equations of all gates hold
abbrev pub Solved : Netlist → List Bool → Type 0
Solved net values = Solves (first_gate net) net.gates values

-- an implication holds where the equations of all gates and the known implications hold
abbrev pub Entails : Netlist → List Implication → Implication → Type 0
Entails net known asked = (values : List Bool) → Solved net values → All (Holds values) known → Holds values asked

-- the value of a signed net is that of two others, joined
pub record IsJoined (net : Netlist) (join : Bool → Bool → Bool) (whole a b : Signed) : Type 0 where
  pub left_below : a.net.0 < net_count net
  pub right_below : b.net.0 < net_count net
  pub value : (values : List Bool) → Solved net values
      → signed_value values whole ≡ join (signed_value values a) (signed_value values b)

-- what makes a signed net true
abbrev pub IsView : Netlist → Signed → View → Type 0
IsView net whole Leaf = ⊤
IsView net whole (Both a b) = IsJoined net (λ x y. x && y) whole a b
IsView net whole (Either a b) = IsJoined net (λ x y. x || y) whole a b

-- a signed net has the value of a net, or the opposite one
pub record StandsForNet (net : Netlist) (id : ℕ) (negated : Bool) (s : Signed) : Type 0 where
  pub below : s.net.0 < net_count net
  pub value : (values : List Bool) → Solved net values
      → signed_value values s ≡ (if negated then not (value_in values id) else value_in values id)

-- an operator that reads no higher nets and has the same value, where the equations and the known implications hold
pub record IsStripped (net : Netlist) (known : List Implication) (old new : Op) : Type 0 where
  pub reads : operand_end new ≤ operand_end old
  pub value : (values : List Bool) → Solved net values → All (Holds values) known
      → op_value (value_in values) new ≡ op_value (value_in values) old

-- each implication of the new list is one of the old list, or such as P says
abbrev pub AddsOnly : (Implication → Type 0) → List Implication → List Implication → Type 0
AddsOnly P old new = (i : Implication) → Contains new i → Contains old i ⊎ P i

-- an implication of inputs, which holds in each event that meets a relation
pub record IsSaid (inputs : ℕ) (relation : Relation) (i : Implication) : Type 0 where
  pub below : IsBelow inputs i
  pub holds : (event : List Bool) → Meets event relation → Holds event i

-- the operator of a net's gate
pub record IsGateOf (net : Netlist) (id : ℕ) (op : Op) : Type 0 where
  pub below : operand_end op ≤ id
  pub value : (values : List Bool) → Solved net values → value_in values id ≡ op_value (value_in values) op

-- The first gates of a netlist, each with an operator that is stripped. They carry no wires.
pub record AreStrippedTo (net : Netlist) (known : List Implication) (k : ℕ) (gates : List Gate) : Type 0 where
  pub count : length gates ≡ k
  pub silent : carried gates ≡ []
  pub each : (j : ℕ) (d : Gate) → j < k
      → IsStripped net known (slice_index_or net.gates j d).op (slice_index_or gates j d).op

-- the same of all gates
abbrev pub AreStripped : Netlist → List Implication → List Gate → Type 0
AreStripped net known gates = AreStrippedTo net known (length net.gates) gates

-- a netlist with other gates
abbrev pub with_gates : Netlist → List Gate → Netlist
with_gates net gates = record {
  name = net.name;
  inputs = net.inputs;
  outputs = net.outputs;
  paused = net.paused;
  latches = net.latches;
  gates = gates;
}

pub record IsStrippedNet (net : Netlist) (known : List Implication) (new : Netlist) : Type 0 where
  pub same : new ≡ with_gates net new.gates
  pub gates : AreStripped net known new.gates

-- the opposite of a signed net
abbrev pub opposite : Signed → Signed
opposite s = record { net = s.net; negated = not s.negated }

-- Inner: a circuit under construction, without where it lies in memory.
use Rattle.std.specs.Prelude.{ℕ, ◌+◌, Option, Some, None, List, [], ◌∷◌, ◌++◌, length, slice_set, slice_index_or}
use Rattle.std.specs.Prelude.{unwrap_or, ◌≡◌, ◌<◌, ◌^◌, nat_lt, Bool, if◌then◌else◌, ⊤}
use Rattle.base_types.specs.declared.indices.NetId.{NetId}
use Rattle.base_types.specs.declared.indices.WireId.{WireId}
use Rattle.net_ir.specs.declared.netlist.Gate.{Gate}
use Rattle.net_ir.specs.declared.netlist.Op.{Op}
use Rattle.net_ir.specs.declared.netlist.Op.TheVariants.{Const, Copy, Not, And, Or}
use Rattle.net_gen.specs.declared.circuit.Draft.{Draft}

-- The number of inputs, the number of the first gate, the nets that are never and always true, the gates, and which
-- nets say what wires, runs of ends and rows say, as far as they were made.
pub record Drawing : Type 0 where
  pub given : ℕ
  pub first : ℕ
  pub no : NetId
  pub yes : NetId
  pub gates : List Gate
  pub wires : List (Option NetId)
  pub ends : List (Option NetId)
  pub rows : List (Option NetId)

abbrev pub drawing_of : Draft → Drawing
drawing_of c = record {
  given = c.given;
  first = c.first;
  no = c.no;
  yes = c.yes;
  gates = c.gates.items;
  wires = c.wires.items;
  ends = c.ends.items;
  rows = c.rows.items;
}

-- the number of the next gate
abbrev pub next_number : Drawing → ℕ
next_number d = d.first + length d.gates

-- one more gate
abbrev pub with_gate : Drawing → Op → Option WireId → Drawing
with_gate d op wire = record d { gates = d.gates ++ record { op = op; wire = wire } ∷ [] }

-- one more gate that carries a wire, which is noted
abbrev pub with_wire : Drawing → Op → WireId → Drawing
with_wire d op v = record d {
  gates = d.gates ++ record { op = op; wire = Some v } ∷ [];
  wires = slice_set d.wires v.0 (Some (record { 0 = next_number d }));
}

-- one more gate for a row, which is noted
abbrev pub with_row : Drawing → Op → ℕ → Drawing
with_row d op r = record d {
  gates = d.gates ++ record { op = op; wire = None } ∷ [];
  rows = slice_set d.rows r (Some (record { 0 = next_number d }));
}

-- a net of this value: what only copies a net needs no gate
abbrev pub with_net : Drawing → Op → Drawing
with_net d (Const b) = with_gate d (Const b) None
with_net d (Copy n) = d
with_net d (Not n) = with_gate d (Not n) None
with_net d (And m n) = with_gate d (And m n) None
with_net d (Or m n) = with_gate d (Or m n) None

abbrev pub net_number : Drawing → Op → ℕ
net_number d (Const b) = next_number d
net_number d (Copy n) = n.0
net_number d (Not n) = next_number d
net_number d (And m n) = next_number d
net_number d (Or m n) = next_number d

-- how many gates it takes to have a net of this value
abbrev pub gates_for : Op → ℕ
gates_for (Const b) = 1
gates_for (Copy n) = 0
gates_for (Not n) = 1
gates_for (And m n) = 1
gates_for (Or m n) = 1

-- a place of a table is filled
abbrev pub Placed : List (Option NetId) → ℕ → Type 0
Placed entries k = (n : NetId) × (slice_index_or entries k None ≡ Some n)

-- the net at a place of a table
abbrev pub net_at : List (Option NetId) → ℕ → NetId
net_at entries k = unwrap_or (slice_index_or entries k None) (record { 0 = 0 })

-- The or of a net, if there is one, and of a wire's net, noted as the run of ends up to that wire.
abbrev pub with_run : Drawing → Option NetId → ℕ → Drawing
with_run d None v = record d { ends = slice_set d.ends v (Some (net_at d.wires v)) }
with_run d (Some n) v = record d {
  gates = d.gates ++ record { op = Or n (net_at d.wires v); wire = None } ∷ [];
  ends = slice_set d.ends v (Some (record { 0 = next_number d }));
}

abbrev pub run_number : Drawing → Option NetId → ℕ → ℕ
run_number d None v = (net_at d.wires v).0
run_number d (Some n) v = next_number d

-- the or of an operator, if there is one, and of a net
abbrev pub with_joined : Drawing → Option Op → Drawing
with_joined d None = d
with_joined d (Some op) = with_net d op

abbrev pub joined_op : Drawing → Option Op → NetId → Op
joined_op d None own = Copy own
joined_op d (Some op) own = Or (record { 0 = net_number d op }) own

abbrev pub JoinFits : Drawing → Option Op → Type 0
JoinFits d None = ⊤
JoinFits d (Some op) = net_number d op < 2 ^ 32

-- the run of ends that is noted at a wire, or else the one that is made now
abbrev pub noted_run : Drawing → Option NetId → ℕ → Option NetId → Drawing
noted_run d before v None = with_run d before v
noted_run d before v (Some n) = d

abbrev pub noted_number : Drawing → Option NetId → ℕ → Option NetId → ℕ
noted_number d before v None = run_number d before v
noted_number d before v (Some n) = n.0

abbrev pub with_run_once : Drawing → Option NetId → ℕ → Drawing
with_run_once d before v = noted_run d before v (slice_index_or d.ends v None)

abbrev pub run_number_once : Drawing → Option NetId → ℕ → ℕ
run_number_once d before v = noted_number d before v (slice_index_or d.ends v None)

-- the net of a constant
abbrev pub constant_net : Drawing → Bool → NetId
constant_net d b = if b then d.yes else d.no

-- the net that says that the event gives a signal
abbrev pub input_net : Drawing → ℕ → NetId
input_net d s = if nat_lt s d.given then record { 0 = s } else d.no

-- there is room for the gate of a run that is made now
abbrev pub NotedFits : Drawing → Option NetId → Option NetId → Type 0
NotedFits d before (Some n) = ⊤
NotedFits d None None = ⊤
NotedFits d (Some b) None = next_number d < 2 ^ 32

abbrev pub RunFits : Drawing → Option NetId → ℕ → Type 0
RunFits d before v = NotedFits d before (slice_index_or d.ends v None)

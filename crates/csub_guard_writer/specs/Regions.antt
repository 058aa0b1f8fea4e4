-- To believe: the regions of gates by those of the wires that they carry.
use Rattle.std.specs.Prelude.{ℕ, ◌+◌, Bool, false, ◌==◌, if◌then◌else◌, List, [], ◌∷◌, Option, Some, None}
use Rattle.std.specs.Prelude.{option_and_then, slice_get, slice_index_or}
use Rattle.base_types.specs.declared.indices.WireId.{WireId}
use Rattle.net_ir.specs.declared.netlist.Gate.{Gate}
use Rattle.net_ir.specs.Netlists.{Netlist, wire_at}

-- what a gate carries is this wire
abbrev pub is_wire : ℕ → Option WireId → Bool
is_wire w None = false
is_wire w (Some v) = v.0 == w

-- the place of the first gate from place k on that carries this wire
abbrev pub carrier : ℕ → List Gate → ℕ → Option ℕ
carrier k [] w = None
carrier k (g ∷ gates) w = if is_wire w g.wire then Some k else carrier (k + 1) gates w

-- a head is a wire that lies in no region itself
abbrev pub if_head : Option (Option WireId) → Option ℕ → Option ℕ
if_head (Some None) found = found
if_head others found = None

-- the head of the region in which the wire of a gate lies, told by the place of the gate that carries the head's wire
abbrev pub region_by : Netlist → List (Option WireId) → ℕ → Option ℕ
region_by net regions k =
    option_and_then
    (λ v. option_and_then (λ h. if_head (slice_get regions h.0) (carrier 0 net.gates h.0))
    (slice_index_or regions v.0 None))
    (wire_at net.gates k)

-- To believe: regions at rest in an instant of a netlist.
use Rattle.std.specs.Prelude.{◌≡◌, ℕ, ◌+◌, ◌<◌, Bool, false, List, length, slice_index_or, Option, Some, None}
use Rattle.base_types.specs.declared.indices.WireId.{WireId}
use Rattle.net_ir.specs.declared.netlist.Gate.{Gate}
use Rattle.net_ir.specs.Gates.{value_in}
use Rattle.net_ir.specs.Netlists.{Netlist, first_gate}

-- Where wires lie in these regions, each told by the wire that says whether its head runs: a gate that carries a wire
-- of a region is 0 where the gate that carries the head's wire is 0.
abbrev pub AreAtRest : List (Option WireId) → Netlist → List Bool → Type 0
AreAtRest regions net values =
    (k j : ℕ) (x : Gate) (v w : WireId) → k < length net.gates → j < length net.gates
    → (slice_index_or net.gates k x).wire ≡ Some v → slice_index_or regions v.0 None ≡ Some w
    → (slice_index_or net.gates j x).wire ≡ Some w
    → value_in values (first_gate net + j) ≡ false → value_in values (first_gate net + k) ≡ false

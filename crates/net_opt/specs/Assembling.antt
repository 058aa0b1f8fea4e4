-- Inner: netlists of parts.
use Rattle.std.specs.Prelude.{◌≡◌, ◌+◌, ◌<◌, ◌≤◌, ◌^◌, List, [], ◌∷◌, length, All}
use Rattle.base_types.specs.declared.indices.NetId.{NetId}
use Rattle.net_ir.specs.declared.netlist.NetOut.{NetOut}
use Rattle.net_ir.specs.Gates.{ReadsLower, carried}
use Rattle.net_ir.specs.Netlists.{Netlist}
use Rattle.net_opt.specs.declared.assembling.Parts.{Parts}
use Rattle.net_opt.specs.declared.assembling.Named.{Named}

-- the outputs of these names that show these nets
abbrev pub named_outputs : List NetOut → List NetId → List NetOut
named_outputs [] nets = []
named_outputs (o ∷ old) [] = []
named_outputs (o ∷ old) (n ∷ nets) = record { name = o.name; net = n } ∷ named_outputs old nets

-- these are the names of the netlist
pub record Matching (net : Netlist) (nets : List NetId) (named : Named) : Type 0 where
  pub name : named.name ≡ net.name
  pub inputs : named.inputs.items ≡ net.inputs
  pub outputs : named.outputs.items ≡ named_outputs net.outputs nets

-- these are parts of a netlist of the same interface, of whose gates none carries a wire
pub record HasParts (net : Netlist) (parts : Parts) : Type 0 where
  pub numbered : length net.inputs + length parts.latches.items + length parts.gates.items ≤ 2 ^ 32
  pub outputs : length parts.outputs.items ≡ length net.outputs
  pub outputs_in_range :
      All (λ n. n.0 < length net.inputs + length parts.latches.items + length parts.gates.items)
      parts.outputs.items
  pub paused_in_range : parts.paused.0 < length net.inputs + length parts.latches.items + length parts.gates.items
  pub latches_in_range :
      All (λ l. l.from.0 < length net.inputs + length parts.latches.items + length parts.gates.items)
      parts.latches.items
  pub reads_lower : ReadsLower (length net.inputs + length parts.latches.items) parts.gates.items
  pub silent : carried parts.gates.items ≡ []

-- the netlist of these parts, with the names of the given one
abbrev pub net_with : Netlist → Parts → Netlist
net_with net parts = record {
  name = net.name;
  inputs = net.inputs;
  outputs = named_outputs net.outputs parts.outputs.items;
  paused = parts.paused.0;
  latches = parts.latches.items;
  gates = parts.gates.items;
}

-- Inner: netlists without the wires that gates carry.
use Rattle.std.specs.Prelude.{◌≡◌, None, map}
use Rattle.net_ir.specs.declared.netlist.Gate.{Gate}
use Rattle.net_ir.specs.Netlists.{Netlist}
use Rattle.net_opt.specs.declared.assembling.Parts.{Parts}

abbrev pub silent_gate : Gate → Gate
silent_gate g = record { op = g.op; wire = None }

abbrev pub silent_net : Netlist → Netlist
silent_net net = record {
  name = net.name;
  inputs = net.inputs;
  outputs = net.outputs;
  paused = net.paused;
  latches = net.latches;
  gates = map silent_gate net.gates;
}

-- the parts of a netlist, without wires
pub record IsSilent (net : Netlist) (parts : Parts) : Type 0 where
  pub gates : parts.gates.items ≡ map silent_gate net.gates
  pub latches : parts.latches.items ≡ net.latches
  pub outputs : parts.outputs.items ≡ map (λ o. o.net) net.outputs
  pub paused : parts.paused.0 ≡ net.paused

-- To believe: the values of a netlist and its runs over items. A latch has its initial value in the first
-- instant and in the first one after a reset, and in every other one the value that its net had one
-- instant before.
use Rattle.std.specs.Prelude.{Bool, List, ◌++◌, map}
use Rattle.base_types.specs.Items.{Item}
use Rattle.base_machines.specs.Machines.{Machine, computed, run_from}
use Rattle.net_ir.specs.declared.netlist.Net.{Net}
use Rattle.net_ir.specs.Gates.{value_in, gate_values}
use Rattle.net_ir.specs.Netlists.{Netlist}

abbrev pub netlist_of : Net → Netlist
netlist_of net = record {
  name = net.name;
  inputs = net.inputs.items;
  outputs = net.outputs.items;
  paused = net.paused.0;
  latches = net.latches.items;
  gates = net.gates.items;
}

-- the values of all nets in an instant with these latch values and these inputs
abbrev pub net_values : Netlist → List Bool → List Bool → List Bool
net_values net latches inputs = gate_values (inputs ++ latches) net.gates

-- the values of the latches in the first instant
abbrev pub initial_latches : Netlist → List Bool
initial_latches net = map (λ l. l.init) net.latches

-- the values of the latches one instant after the nets had these values
abbrev pub next_latches : Netlist → List Bool → List Bool
next_latches net values = map (λ l. value_in values l.from.0) net.latches

-- what a net shows in an instant: the values of its outputs, in order, and the value of `paused`
pub record Shown : Type 0 where
  pub outputs : List Bool
  pub paused : Bool

-- what a net shows where its nets have these values
abbrev pub shown : Netlist → List Bool → Shown
shown net values = record {
  outputs = map (λ o. value_in values o.net.0) net.outputs;
  paused = value_in values net.paused;
}

-- the machine of a netlist: in an instant its nets have the values that its latches and inputs give them
abbrev pub net_machine : Netlist → Machine (List Bool)
net_machine net = computed (initial_latches net) (net_values net) (λ latches inputs values. next_latches net values)

-- the values of all nets in the instant of each event, from these latch values on
abbrev pub values_from : Netlist → List Bool → List Item → List (List Bool)
values_from net latches items =
    run_from (initial_latches net) (net_values net) (λ l inputs values. next_latches net values) latches items

-- the values of all nets in the instant of each event, from the first instant on
abbrev pub net_values_run : Netlist → List Item → List (List Bool)
net_values_run net items = values_from net (initial_latches net) items

-- the run of a net over items: what it shows in the instant of each event; a reset shows nothing
abbrev pub net_run : Netlist → List Item → List Shown
net_run net items = map (shown net) (net_values_run net items)

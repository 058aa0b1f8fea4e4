-- Contract: netlists as devices, and devices that show at least what another one shows.
use Rattle.std.specs.Prelude.{◌≡◌, Bool, List, [], ◌∷◌, ◌++◌, All, length, map}
use Rattle.base_types.specs.Items.{Item}
use Rattle.base_types.specs.Relations.{Relation, relation_of}
use Rattle.base_types.specs.declared.interface.InputRelation.{InputRelation}
use Rattle.est_kernel.specs.WellFormed.{RelatesGiven}
use Rattle.net_ir.specs.Netlists.{Netlist, output_names}
use Rattle.net_ir.specs.Runs.{Shown, net_run, netlist_of}
use Rattle.net_ir.specs.declared.netlist.Net.{Net}
use Rattle.cec_prove_sources.specs.Devices.{Device, FitsDevice}

-- what a netlist shows in an instant, as a row
abbrev pub row_of : Shown → List Bool
row_of s = s.outputs ++ s.paused ∷ []

abbrev pub net_rows : Netlist → List Item → List (List Bool)
net_rows net items = map row_of (net_run net items)

-- a netlist with relations of its inputs
abbrev pub net_device : List Relation → Netlist → Device
net_device relations net = record {
  inputs = net.inputs;
  outputs = output_names net;
  relations = relations;
  Shows = λ items rows. rows ≡ net_rows net items;
}

abbrev pub device_of : List InputRelation → Net → Device
device_of relations net = net_device (map relation_of relations) (netlist_of net)

-- the signals of the relations are inputs
abbrev pub RelatesInputs : List Relation → Netlist → Type 0
RelatesInputs relations net = All (RelatesGiven (length net.inputs)) relations

-- The second device has the names and the relations of the first one, and over items that fit shows what that shows.
pub record Renders (d e : Device) : Type 0 where
  pub inputs : d.inputs ≡ e.inputs
  pub outputs : d.outputs ≡ e.outputs
  pub relations : d.relations ≡ e.relations
  pub shows : (items : List Item) (rows : List (List Bool)) → FitsDevice d items → d.Shows items rows
      → e.Shows items rows

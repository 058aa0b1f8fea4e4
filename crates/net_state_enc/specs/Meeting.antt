-- Contract: what is known of a netlist's latches in each instant of a run.
use Rattle.std.specs.Prelude.{Bool, List, [], ◌∷◌, ⊤}
use Rattle.base_types.specs.Items.{Item, Event, Reset}
use Rattle.net_ir.specs.Netlists.{Netlist}
use Rattle.net_ir.specs.Runs.{net_values, initial_latches, next_latches}

-- The values of the latches meet P in the instant of each event, from these on. A reset puts the initial ones back.
abbrev pub LatchesMeet : (List Bool → Type 0) → Netlist → List Bool → List Item → Type 0
LatchesMeet P net latches [] = ⊤
LatchesMeet P net latches (Event inputs ∷ items) =
    P latches × LatchesMeet P net (next_latches net (net_values net latches inputs)) items
LatchesMeet P net latches (Reset ∷ items) = LatchesMeet P net (initial_latches net) items

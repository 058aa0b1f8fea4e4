-- To believe: what it means that one netlist follows another.
use Rattle.std.specs.Prelude.{◌≡◌, Bool, List, length, map}
use Rattle.base_types.specs.Items.{Item, EachEvent}
use Rattle.base_machines.specs.Machines.{Follows}
use Rattle.net_ir.specs.Netlists.{Netlist}
use Rattle.net_ir.specs.Runs.{net_machine, net_run, shown, values_from}

-- an event has one value for each input
abbrev pub IsWide : Netlist → List Bool → Type 0
IsWide net event = length event ≡ length net.inputs

-- the same is shown
abbrev pub ShowSame : Netlist → Netlist → List Bool → List Bool → Type 0
ShowSame old new v w = shown new w ≡ shown old v

-- from these latch values on the same is shown, over all items
abbrev pub AlikeFrom : Netlist → Netlist → List Bool → List Bool → Type 0
AlikeFrom old new s t = (items : List Item) → EachEvent (IsWide old) items
    → map (shown new) (values_from new t items) ≡ map (shown old) (values_from old s items)

-- The new netlist follows the old one: over all items whose events have one value for each input both show the same.
-- `follows` says this in the words of machines, and adds nothing to `runs`: laws on machines take it as it is.
pub record IsFollowed (old new : Netlist) : Type 0 where
  pub runs : (items : List Item) → EachEvent (IsWide old) items → net_run new items ≡ net_run old items
  pub follows : Follows (net_machine old) (net_machine new) (IsWide old) (ShowSame old new) (AlikeFrom old new)

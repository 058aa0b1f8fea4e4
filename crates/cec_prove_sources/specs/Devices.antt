-- To believe: what questions about a circuit or a netlist are about: names of inputs and outputs, relations of the
-- inputs, and what is shown over items.
use Rattle.std.specs.Prelude.{◌≡◌, ℕ, Bool, List, length}
use Rattle.base_types.specs.Items.{Item, EachEvent}
use Rattle.base_types.specs.Relations.{Relation, MeetsAll}

-- A device under test, with relations of its inputs. Over some items it shows rows, one for each event: the values of
-- its outputs, in order, and a last one that says whether it is still active.
pub record Device : Type 1 where
  pub inputs : List (List ℕ)
  pub outputs : List (List ℕ)
  pub relations : List Relation
  pub Shows : List Item → List (List Bool) → Type 0

-- an event has this number of values, and it meets the relations
pub record IsEventOver (width : ℕ) (relations : List Relation) (event : List Bool) : Type 0 where
  pub wide : length event ≡ width
  pub meets : MeetsAll relations event

-- items whose events have one value for each input, and meet the relations
abbrev pub FitsDevice : Device → List Item → Type 0
FitsDevice d items = EachEvent (IsEventOver (length d.inputs) d.relations) items

-- To believe: what a simplified netlist has in common with the one that it is made from.
use Rattle.std.specs.Prelude.{◌≡◌, ℕ, ◌+◌, ◌≤◌, Bool, Option, None, Some, List, [], ◌∷◌, ◌++◌, length, map}
use Rattle.base_types.specs.Items.{Item, EachEvent}
use Rattle.base_types.specs.declared.indices.WireId.{WireId}
use Rattle.net_ir.specs.declared.netlist.Gate.{Gate}
use Rattle.net_ir.specs.Gates.{value_in, carried}
use Rattle.net_ir.specs.Netlists.{Netlist, first_gate, output_names}
use Rattle.net_ir.specs.Runs.{shown, net_values, initial_latches, next_latches, net_run, net_values_run}

abbrev pub carried_value : Option WireId → Bool → List Bool
carried_value None b = []
carried_value (Some w) b = b ∷ []

-- the values of the gates that carry a wire, in order, where the first gate has this number
abbrev pub carried_values : ℕ → List Gate → List Bool → List Bool
carried_values n [] values = []
carried_values n (g ∷ gates) values = carried_value g.wire (value_in values n) ++ carried_values (n + 1) gates values

-- name, interface, latches and carried wires stay, in their order; there are no more gates than before
pub record SameParts (net new : Netlist) : Type 0 where
  pub name : new.name ≡ net.name
  pub inputs : new.inputs ≡ net.inputs
  pub outputs : output_names new ≡ output_names net
  pub latches : initial_latches new ≡ initial_latches net
  pub carries : carried new.gates ≡ carried net.gates
  pub fewer : length new.gates ≤ length net.gates

-- in an instant with these latch values and inputs the outputs, `paused` and the carried wires have the same values,
-- and so have the latches one instant later
pub record SameInstant (net new : Netlist) (latches inputs : List Bool) : Type 0 where
  pub shows : shown new (net_values new latches inputs) ≡ shown net (net_values net latches inputs)
  pub carries : carried_values (first_gate new) new.gates (net_values new latches inputs)
      ≡ carried_values (first_gate net) net.gates (net_values net latches inputs)
  pub next : next_latches new (net_values new latches inputs) ≡ next_latches net (net_values net latches inputs)

-- in every instant, reached or not
abbrev pub SameInstants : Netlist → Netlist → Type 0
SameInstants net new = (latches inputs : List Bool)
    → length latches ≡ length net.latches → length inputs ≡ length net.inputs → SameInstant net new latches inputs

-- over these items the outputs, `paused` and the carried wires have the same values in each instant
pub record RunsAlike (net new : Netlist) (items : List Item) : Type 0 where
  pub shows : net_run new items ≡ net_run net items
  pub carries : map (carried_values (first_gate new) new.gates) (net_values_run new items)
      ≡ map (carried_values (first_gate net) net.gates) (net_values_run net items)

-- over all items whose events have one value for each input
abbrev pub SameRuns : Netlist → Netlist → Type 0
SameRuns net new = (items : List Item)
    → EachEvent (λ event. length event ≡ length net.inputs) items → RunsAlike net new items

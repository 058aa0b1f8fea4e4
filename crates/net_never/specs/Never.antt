-- Contract: what it means that a net, or its negation, is never true.
use Rattle.std.specs.Prelude.{◌≡◌, Bool, false, List, length}
use Rattle.std.specs.List.{AllByRecursion}
use Rattle.base_types.specs.Items.{Item, EachEvent}
use Rattle.net_ir.specs.Gates.{value_in}
use Rattle.net_ir.specs.Netlists.{Netlist}
use Rattle.net_ir.specs.Runs.{net_values_run}
use Rattle.sat_kernel.specs.declared.literals.Literal.{Literal}
use Rattle.sat_kernel.specs.Clauses.{IsModel, literal_value}

-- an event has one value for each input
abbrev pub FitsInputs : Netlist → List Bool → Type 0
FitsInputs net event = length event ≡ length net.inputs

-- Over every list of items, events and resets: where these clauses over the nets are met in each instant, the literal,
-- a net or its negation, is false in each instant.
abbrev pub IsNever : Netlist → List (List Literal) → Literal → Type 0
IsNever net allowed bad = (items : List Item) → EachEvent (FitsInputs net) items
    → AllByRecursion (λ values. IsModel (value_in values) allowed) (net_values_run net items)
    → AllByRecursion (λ values. literal_value (value_in values) bad ≡ false) (net_values_run net items)

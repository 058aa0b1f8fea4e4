-- To believe: when events lead to an instant where a net, or its negation, is true.
use Rattle.std.specs.Prelude.{Bool, false, ◌&&◌, List, [], ◌∷◌, Vec, length, map, nat_eq}
use Rattle.std.specs.List.{list_all}
use Rattle.std.specs.declared.alloc.Global.{Global}
use Rattle.base_types.specs.Items.{Item, Event}
use Rattle.net_ir.specs.Gates.{value_in}
use Rattle.net_ir.specs.Netlists.{Netlist}
use Rattle.net_ir.specs.Runs.{net_values_run}
use Rattle.sat_kernel.specs.declared.literals.Literal.{Literal}
use Rattle.sat_kernel.specs.Clauses.{clause_value, literal_value}

-- events without the capacities and pointers of vectors
abbrev pub events_of : List (Vec Bool Global) → List (List Bool)
events_of events = map (λ event. event.items) events

-- events as items, with no reset among them
abbrev pub items_of : List (List Bool) → List Item
items_of events = map Event events

-- whether these values of nets meet all clauses
abbrev pub are_met : List (List Literal) → List Bool → Bool
are_met clauses values = list_all (clause_value (value_in values)) clauses

-- the last value, or, where there is none, the given one
abbrev pub last_or : Bool → List Bool → Bool
last_or value [] = value
last_or value (next ∷ values) = last_or next values

-- Each event has one value for each input, the clauses are met in each instant, and the literal is true in the last
-- one.
abbrev pub is_reached : Netlist → List (List Literal) → Literal → List (List Bool) → Bool
is_reached net allowed bad events = list_all (λ event. nat_eq (length event) (length net.inputs)) events
    && (list_all (are_met allowed) (net_values_run net (items_of events))
    && last_or false (map (λ values. literal_value (value_in values) bad) (net_values_run net (items_of events))))

use Rattle.std.proofs.Common.{◌≡◌, Bool, List, false, ◌&&◌, drop, map}
use Rattle.std.specs.List.{list_all}
use Rattle.net_ir.specs.Gates.{value_in}
use Rattle.net_ir.specs.Runs.{initial_latches, netlist_of, values_from}
use Rattle.sat_kernel.specs.Clauses.{literal_value, plain_assumed}
use Rattle.net_never.specs.Reached.{are_met, events_of, items_of, last_or}
use Rattle.net_never.proofs.runs.is_reached.Given as goal

-- what is left of the run decides as all of it does
abbrev pub invariant-loop-event : goal.invariant-loop-event
invariant-loop-event l =
    (list_all (are_met (plain_assumed l.allowed)) (values_from (netlist_of l.net) l.latches.items (items_of (events_of (drop l.event-index l.events))))
    && last_or l.last (map (λ (values : List Bool). literal_value (value_in values) l.bad)
    (values_from (netlist_of l.net) l.latches.items (items_of (events_of (drop l.event-index l.events))))))
    ≡ (list_all (are_met (plain_assumed l.allowed)) (values_from (netlist_of l.net) (initial_latches (netlist_of l.net)) (items_of (events_of l.events)))
    && last_or false (map (λ (values : List Bool). literal_value (value_in values) l.bad)
    (values_from (netlist_of l.net) (initial_latches (netlist_of l.net)) (items_of (events_of l.events)))))

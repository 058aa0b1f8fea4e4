use Rattle.std.proofs.Common.{◌≡◌, Bool, List, drop, length}
use Rattle.std.specs.Prelude.{nat_eq}
use Rattle.std.specs.List.{list_all}
use Rattle.net_never.specs.Reached.{events_of}
use Rattle.net_never.proofs.runs.are_wide.Given as goal

abbrev pub invariant-loop-event : goal.invariant-loop-event
invariant-loop-event l =
    list_all (λ (event : List Bool). nat_eq (length event) (length l.net.inputs.items)) (events_of (drop l.event-index l.events))
    ≡ list_all (λ (event : List Bool). nat_eq (length event) (length l.net.inputs.items)) (events_of l.events)

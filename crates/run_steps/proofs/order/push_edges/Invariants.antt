use Rattle.std.proofs.Common.{◌≡◌, ◌++◌, drop}
use Rattle.run_steps.specs.Order.{slot_edges}
use Rattle.run_steps.proofs.order.push_edges.Given as goal

abbrev pub invariant-loop-slot : goal.invariant-loop-slot
invariant-loop-slot l = l.edges.items ++ slot_edges l.first l.node (drop l.slot-index l.slots) ≡ l.initial.edges.items ++ slot_edges l.first l.node l.slots

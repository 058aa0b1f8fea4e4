use Rattle.std.proofs.Common.{◌≡◌, ◌++◌, map, drop}
use Rattle.run_steps.specs.Order.{edges_from}
use Rattle.run_steps.proofs.order.edges.Given as goal

abbrev pub invariant-loop-node : goal.invariant-loop-node
invariant-loop-node l = l.edges.items ++ edges_from l.first l.node (map (λ r. r.items) (drop l.node l.reads)) ≡ edges_from l.first 0 (map
    (λ r. r.items) l.reads)

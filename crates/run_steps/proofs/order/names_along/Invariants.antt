use Rattle.std.proofs.Common.{◌≡◌, map, take}
use Rattle.run_steps.specs.Order.{names_along}
use Rattle.run_steps.proofs.order.names_along.Given as goal

abbrev pub invariant-loop-node : goal.invariant-loop-node
invariant-loop-node l = l.found.items ≡ names_along (map (λ w. w.now) l.names) l.first (take l.node-index l.walk)

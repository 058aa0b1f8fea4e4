use Rattle.grc_order.specs.Runs.{BeginBelow}
use Rattle.grc_order.proofs.edge_runs.begin_behind.Given as goal

abbrev pub invariant-loop-place : goal.invariant-loop-place
invariant-loop-place l = BeginBelow l.fn.wire.0 l.fn.pairs l.place

use Rattle.std.proofs.Common.{take}
use Rattle.net_unroll.specs.Rails.{Watches}
use Rattle.net_unroll.proofs.rails.watch.Given as goal

abbrev pub invariant-loop-node : goal.invariant-loop-node
invariant-loop-node l = record {
  made : Watches l.fn.gates l.gates l.rails (take l.node-index l.watched) l.whole.0;
}

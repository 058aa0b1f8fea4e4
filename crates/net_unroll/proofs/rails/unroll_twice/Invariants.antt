use Rattle.std.proofs.Common.{take}
use Rattle.net_unroll.specs.Rails.{IsUnrolledTwice}
use Rattle.net_unroll.proofs.rails.unroll_twice.Given as goal

abbrev pub invariant-loop-node : goal.invariant-loop-node
invariant-loop-node l = record {
  made : IsUnrolledTwice l.fn.gates l.gates l.system l.sources l.rails (take l.node-index l.schedule);
}

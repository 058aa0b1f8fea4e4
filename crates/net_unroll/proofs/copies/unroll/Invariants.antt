use Rattle.std.proofs.Common.{take}
use Rattle.net_unroll.specs.Copies.{IsUnrolled}
use Rattle.net_unroll.proofs.copies.unroll.Given as goal

abbrev pub invariant-loop-node : goal.invariant-loop-node
invariant-loop-node l = record {
  made : IsUnrolled l.fn.gates l.gates l.system l.sources l.copies.items (take l.node-index l.schedule);
}

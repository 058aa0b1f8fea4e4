use Rattle.std.proofs.Common.{◌≤◌, length}
use Rattle.grc_order.specs.Runs.{BeginBelow}
use Rattle.grc_order.proofs.RunLaws.{BeginsUpto}
use Rattle.grc_order.proofs.edge_runs.edge_begins.Given as goal

abbrev pub invariant-loop-wire : goal.invariant-loop-wire
invariant-loop-wire l = record {
  upto : BeginsUpto l.edges.pairs.items l.begins.items l.wire;
  bound : l.begin ≤ length l.edges.pairs.items;
  below : BeginBelow l.wire l.edges.pairs.items l.begin;
}

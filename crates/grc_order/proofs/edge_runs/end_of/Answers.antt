use Rattle.std.proofs.Common.{nat_le, rules}
use Rattle.std.proofs.lemmas.List.Sorted.{IsPartitionPoint-from_clause, IsPartitionedBy-leb}
use Rattle.grc_graph.specs.WireOrders.{WireEdge}
use Rattle.grc_order.proofs.edge_runs.end_of.Goals as goal

pub returns-clause-point : goal.returns-clause-point
returns-clause-point c =
    let pairs = c.args.pairs.now in
    let v = c.args.wire.0 in
    IsPartitionPoint-from_clause (λ (e : WireEdge). nat_le e.0.0 v) pairs _ c.partition_point.ensures.partitioned
    (IsPartitionedBy-leb (λ (e : WireEdge). e.0.0) pairs v c.requires) (λ a r f. search rules)

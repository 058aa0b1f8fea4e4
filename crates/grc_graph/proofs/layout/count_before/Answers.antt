use Rattle.std.proofs.Common.{rules}
use Rattle.std.specs.Prelude.{nat_lt}
use Rattle.std.proofs.lemmas.List.Sorted.{IsPartitionPoint-from_clause}
use Rattle.grc_graph.proofs.InstanceRuns.{statements_partitioned}
use Rattle.grc_graph.proofs.layout.count_before.Goals as goal

pub returns-clause-place : goal.returns-clause-place
returns-clause-place c =
    IsPartitionPoint-from_clause (λ y. nat_lt y.path.0 c.args.statement) c.args.live.now _ c.partition_point.ensures.partitioned
    (statements_partitioned c.args.live.now c.args.statement c.requires) (λ a r f. search rules)

use Rattle.std.proofs.Common.{rules}
use Rattle.std.proofs.lemmas.List.Sorted.{IsPartitionPoint-from_clause}
use Rattle.grc_graph.specs.PlainInstances.{instance_of}
use Rattle.grc_graph.specs.WireTables.{comes_before}
use Rattle.grc_graph.proofs.NeighbourReads.{partitioned}
use Rattle.grc_graph.proofs.neighbours.place_of.Goals as goal

pub returns-clause-place : goal.returns-clause-place
returns-clause-place c =
    IsPartitionPoint-from_clause (λ y. comes_before (instance_of y) (instance_of c.args.wanted)) c.args.list.now _ c.partition_point.ensures.partitioned
    (partitioned c.args.list.now (instance_of c.args.wanted) c.requires) (λ a r f. search rules)

use Rattle.std.proofs.Common.{◌≡◌, ◌++◌, map, take}
use Rattle.std.specs.Prelude.{flat_map}
use Rattle.est_kernel.specs.Plain.{program_of}
use Rattle.grc_graph.specs.PlainInstances.{instance_of}
use Rattle.grc_graph.specs.Rows.{program_rows}
use Rattle.grc_dep.specs.InstanceEdges.{instance_edges}
use Rattle.grc_dep.specs.Found.{found_by}
use Rattle.grc_dep.proofs.graph_edges.push_edges.Given as goal

-- the edges at the instances so far
abbrev pub invariant-loop-instance : goal.invariant-loop-instance
invariant-loop-instance l =
    l.pairs.items ≡ l.fn.pairs.items ++ found_by l.lookups
    (flat_map (instance_edges (program_rows (program_of l.graph.program))) (map instance_of (take l.instance-index l.graph.instances.list.items)))

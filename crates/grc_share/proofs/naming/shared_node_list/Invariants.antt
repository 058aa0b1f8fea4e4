use Rattle.std.proofs.Common.{◌≡◌, length, map, take}
use Rattle.std.specs.Prelude.{All, IsTrue, filter}
use Rattle.est_kernel.specs.Plain.{program_of}
use Rattle.grc_graph.specs.GraphRuns.{program_spots}
use Rattle.grc_graph.specs.GraphShapes.{node_fits}
use Rattle.grc_graph.specs.Nodes as plain
use Rattle.grc_graph.specs.PlainGraphs.{node_form}
use Rattle.grc_share.specs.SharedGraphs.{is_least, renamed_node, shared_instances}
use Rattle.grc_share.specs.SharedInstances.{body_sharing}
use Rattle.grc_share.specs.SharedWires.{shared_wires}
use Rattle.grc_share.proofs.naming.shared_node_list.Given as goal

-- the nodes of the instances so far
abbrev pub invariant-loop-i : goal.invariant-loop-i
invariant-loop-i l = record {
  nodes : map (node_form (shared_instances (program_of l.graph.program)) (shared_wires (program_of l.graph.program))) l.nodes.items
      ≡ map (λ x. renamed_node (body_sharing (program_of l.graph.program).body) (plain.spot_node x))
      (filter (is_least (body_sharing (program_of l.graph.program).body)) (take l.i (program_spots (program_of l.graph.program))));
  fit : All (λ x. IsTrue (node_fits (length (shared_instances (program_of l.graph.program))) (length (shared_wires (program_of l.graph.program))) x))
      l.nodes.items;
}

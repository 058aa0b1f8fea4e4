use Rattle.std.proofs.Common.{◌≡◌, length, map, take}
use Rattle.std.specs.Prelude.{All, IsTrue}
use Rattle.est_kernel.specs.Plain.{program_of}
use Rattle.grc_graph.specs.GraphShapes.{wire_fits}
use Rattle.grc_graph.specs.PlainGraphs.{wire_of}
use Rattle.grc_share.specs.SharedGraphs.{shared_instances}
use Rattle.grc_share.specs.SharedWires.{shared_wires}
use Rattle.grc_share.proofs.naming.shared_wire_list.Given as goal

-- the wires so far
abbrev pub invariant-loop-w : goal.invariant-loop-w
invariant-loop-w l = record {
  wires : map (wire_of (shared_instances (program_of l.graph.program))) l.wires.items ≡ take l.w-index (shared_wires (program_of l.graph.program));
  fit : All (λ w. IsTrue (wire_fits (length (shared_instances (program_of l.graph.program))) w)) l.wires.items;
}

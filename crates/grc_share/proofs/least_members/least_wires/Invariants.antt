use Rattle.std.proofs.Common.{◌≡◌, length}
use Rattle.est_kernel.specs.Plain.{term_of}
use Rattle.grc_graph.specs.PlainGraphs.{names_of}
use Rattle.grc_share.specs.LeastMembers.{AreLeastWires}
use Rattle.grc_share.specs.SharedInstances.{body_sharing}
use Rattle.grc_share.proofs.least_members.least_wires.Given as goal

-- those of the wires so far
abbrev pub invariant-loop-w : goal.invariant-loop-w
invariant-loop-w l = record {
  each : length l.wires.items ≡ l.w;
  least : AreLeastWires (body_sharing (term_of l.graph.program.body)) (names_of l.graph) l.wires.items;
}

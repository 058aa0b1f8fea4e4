use Rattle.std.proofs.Common.{map}
use Rattle.est_kernel.specs.Plain.{program_of}
use Rattle.grc_graph.specs.PlainInstances.{instance_of}
use Rattle.grc_graph.proofs.WireFilling.{Filled}
use Rattle.grc_graph.proofs.layout.wire_runs.Given as goal

abbrev pub invariant-loop-i : goal.invariant-loop-i
invariant-loop-i l = Filled (program_of l.program) (map instance_of l.live.list.items) l.i l.wires.items l.first.items

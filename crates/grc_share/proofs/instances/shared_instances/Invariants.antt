use Rattle.std.proofs.Common.{◌≡◌, length}
use Rattle.est_kernel.specs.Plain.{program_of}
use Rattle.grc_graph.specs.PlainGraphs.{instances_of}
use Rattle.grc_share.specs.Renamings.{AreInstanceNumbers}
use Rattle.grc_share.specs.SharedGraphs.{shared_instances}
use Rattle.grc_share.specs.SharedInstances.{body_sharing}
use Rattle.grc_share.proofs.instances.shared_instances.Given as goal

-- the numbers of the instances so far
abbrev pub invariant-loop-first : goal.invariant-loop-first
invariant-loop-first l = record {
  each : length l.numbers.items ≡ l.first-index;
  numbers : AreInstanceNumbers (body_sharing (program_of l.graph.program).body) (instances_of l.graph)
      (shared_instances (program_of l.graph.program)) l.numbers.items;
}

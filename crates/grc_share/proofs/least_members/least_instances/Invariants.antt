use Rattle.std.proofs.Common.{◌≡◌, length}
use Rattle.est_kernel.specs.Plain.{term_of}
use Rattle.grc_share.specs.LeastMembers.{AreLeast}
use Rattle.grc_share.specs.SharedInstances.{body_sharing}
use Rattle.grc_share.proofs.least_members.least_instances.Given as goal

-- those of the instances so far
abbrev pub invariant-loop-i : goal.invariant-loop-i
invariant-loop-i l = record {
  each : length l.least.items ≡ l.i;
  least : AreLeast (body_sharing (term_of l.graph.program.body)) l.graph.instances.list.items l.least.items;
}

use Rattle.std.proofs.Common.{◌≡◌, length, map, take}
use Rattle.std.specs.Prelude.{filter}
use Rattle.est_kernel.specs.Plain.{program_of}
use Rattle.grc_graph.specs.PlainGraphs.{instances_of}
use Rattle.grc_graph.specs.PlainInstances.{instance_of}
use Rattle.grc_share.specs.Renamings.{AreOwnPlaces, is_named}
use Rattle.grc_share.specs.SharedInstances.{body_sharing}
use Rattle.grc_share.proofs.instances.own_instances.Given as goal

-- those among the first
abbrev pub invariant-loop-i : goal.invariant-loop-i
invariant-loop-i l = record {
  each : length l.places.items ≡ l.i;
  list : map instance_of l.list.items ≡ filter (is_named (body_sharing (program_of l.graph.program).body)) (take l.i (instances_of l.graph));
  places : AreOwnPlaces (body_sharing (program_of l.graph.program).body) (instances_of l.graph) l.list.items l.places.items;
}

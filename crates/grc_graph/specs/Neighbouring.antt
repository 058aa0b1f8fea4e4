-- Inner: what a table of instances and wires shows: both by name.
use Rattle.std.specs.Prelude.{List, map}
use Rattle.grc_graph.specs.declared.neighbours.Neighbours.{Neighbours}
pub use Rattle.grc_graph.specs.GraphRuns.{program_wires}
use Rattle.grc_graph.specs.Instances as plain
use Rattle.grc_graph.specs.PlainInstances.{instance_of}
use Rattle.grc_graph.specs.Wires as names
use Rattle.grc_graph.specs.PlainGraphs.{wire_of}

-- the instances and the wires by name
abbrev pub instances_in : Neighbours → List plain.Instance
instances_in t = map instance_of t.list.now

abbrev pub names_in : Neighbours → List names.Wire
names_in t = map (wire_of (instances_in t)) t.wires.now

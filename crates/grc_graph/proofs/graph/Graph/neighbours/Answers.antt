use Rattle.std.proofs.Common.{map, ◌∙◌}
use Rattle.grc_graph.specs.PlainInstances.{instance_of, wire_of}
use Rattle.grc_graph.proofs.graph.Graph.neighbours.Goals as goal

pub returns-clause-wires : goal.returns-clause-wires
returns-clause-wires c =
    λ i. map (wire_of (map instance_of (c.over.ensures.instances i))) ((c.over.ensures.wires ∙ c.deref.ensures.value) i)

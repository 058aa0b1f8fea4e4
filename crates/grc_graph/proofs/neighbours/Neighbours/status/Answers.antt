use Rattle.std.proofs.Common.{◌<◌, length, arith}
use Rattle.std.proofs.lemmas.List.{length-map}
use Rattle.grc_graph.specs.PlainInstances.{instance_of}
use Rattle.grc_graph.proofs.NeighbourReads.{status_or_none}
use Rattle.grc_graph.proofs.neighbours.Neighbours.status.Goals as goal

pub returns : goal.returns
returns c =
    let t = c.args.self.now in
    let li : c.args.i.0 < length t.list.now = omega (arith, length-map t.list.now instance_of) in
    status_or_none t.list.now t.wires.now t.first.now t.inputs t.outgoing c.args.i.0 c.find_wire.result t.tables li c.find_wire.ensures

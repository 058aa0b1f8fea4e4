use Rattle.std.proofs.Common.{◌<◌, length, arith}
use Rattle.std.proofs.lemmas.List.{length-map}
use Rattle.grc_graph.specs.PlainInstances.{instance_of}
use Rattle.grc_graph.proofs.NeighbourReads.{found_go}
use Rattle.grc_graph.proofs.neighbours.Neighbours.go.Goals as goal

pub returns : goal.returns
returns c =
    let t = c.args.self.now in
    let li : c.args.i.0 < length t.list.now = omega (arith, length-map t.list.now instance_of) in
    found_go t.list.now t.wires.now t.first.now t.inputs t.outgoing c.args.i.0 t.tables li

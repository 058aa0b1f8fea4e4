use Rattle.grc_graph.specs.PlainInstances.{layer_of}
use Rattle.grc_graph.proofs.NeighbourReads.{no_end}
use Rattle.grc_graph.proofs.neighbours.Neighbours.find_end.Goals as goal

pub returns-in-None : goal.returns-in-None
returns-in-None c =
    let t = c.args.self.now in
    no_end t.list.now t.wires.now t.first.now t.inputs t.outgoing c.args.path c.args.code (layer_of c.args.layer) t.tables c.in-None.ensures

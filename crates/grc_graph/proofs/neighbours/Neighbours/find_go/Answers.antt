use Rattle.grc_graph.specs.PlainInstances.{layer_of}
use Rattle.grc_graph.proofs.NeighbourReads.{no_go}
use Rattle.grc_graph.proofs.neighbours.Neighbours.find_go.Goals as goal

pub returns-in-None : goal.returns-in-None
returns-in-None c =
    let t = c.args.self.now in
    no_go t.list.now t.wires.now t.first.now t.inputs t.outgoing c.args.path (layer_of c.args.layer) t.tables c.in-None.ensures

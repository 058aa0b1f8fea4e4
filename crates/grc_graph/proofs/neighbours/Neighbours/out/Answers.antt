use Rattle.std.proofs.Common.{arith}
use Rattle.grc_graph.proofs.NeighbourReads.{found_out, absent_out}
use Rattle.grc_graph.proofs.neighbours.Neighbours.out.Goals as goal
use Rattle.grc_graph.proofs.neighbours.Neighbours.out.Goals.{else-signal-self-via-then-signal-self+else-signal-self-2, else-signal-self-via-else-signal-self}

pub returns-then-signal-self-2 : goal.returns-then-signal-self-2
returns-then-signal-self-2 c =
    let t = c.args.self.now in
    found_out t.list.now t.wires.now t.first.now t.inputs t.outgoing c.args.signal.0 t.tables c.if-signal-self.true c.if-signal-self-2.true

pub returns-else-signal-self : goal.returns-else-signal-self
returns-else-signal-self c =
    let t = c.args.self.now in
    absent_out t.list.now t.wires.now t.first.now t.inputs t.outgoing c.args.signal.0 t.tables
    (λ g h. elim c.else-signal-self.branch [
      | else-signal-self-via-then-signal-self+else-signal-self-2 w ↦ omega arith
      | else-signal-self-via-else-signal-self w ↦ omega arith
    ])

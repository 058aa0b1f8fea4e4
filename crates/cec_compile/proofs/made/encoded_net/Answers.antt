use Rattle.std.proofs.Common.{length}
use Rattle.net_ir.specs.Runs.{netlist_of}
use Rattle.cec_compile.proofs.EncodedNets.{simplified_encodes, simplified_size}
use Rattle.cec_compile.proofs.made.encoded_net.Goals as goal

pub returns-clause-encodes : goal.returns-clause-encodes
returns-clause-encodes c body is =
    let f = c.in_ok-made.ensures in
    simplified_encodes (netlist_of c.args.net.now) (netlist_of c.in_ok-coded.coded) (netlist_of c.in_ok-made.made) body f.parts f.runs
    (c.in_ok-coded.ensures.encodes body is)

pub returns-clause-size : goal.returns-clause-size
returns-clause-size c =
    simplified_size (netlist_of c.in_ok-coded.coded) (netlist_of c.in_ok-made.made) (length c.args.net.now.gates.items)
    (length c.args.tree.now.nodes.items) c.in_ok-made.ensures.parts c.in_ok-coded.ensures.size

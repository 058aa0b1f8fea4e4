use Rattle.std.proofs.Common.{[], inr}
use Rattle.net_ir.specs.Runs.{netlist_of}
use Rattle.net_state_enc.proofs.Encoded.{encodes-copy}
use Rattle.net_state_enc.proofs.encoding.encode.Goals as goal

pub returns-in_ok-copy-clause-encodes : goal.returns-in_ok-copy-clause-encodes
returns-in_ok-copy-clause-encodes c body is =
    encodes-copy (netlist_of c.args.net.now) (netlist_of c.in_ok-copy.copy) body c.args.tree.now 0 [] is c.requires.latches c.in_ok-copy.ensures
    (inr c.if-tree-le-LEAVES_AT_MOST.false)

use Rattle.net_ir.specs.Runs.{netlist_of}
use Rattle.cec_compile.proofs.EncodedNets.{own_tree, few_nets, first_latches, encoded_is}
use Rattle.cec_compile.proofs.made.made_in.Goals as goal

pub encoded_net-requires-clause-tree : goal.encoded_net-requires-clause-tree
encoded_net-requires-clause-tree c =
    let p = c.requires.stands.0 in
    (p.body, own_tree c.args.compiled p c.requires.stands.1)

pub encoded_net-requires-clause-latches : goal.encoded_net-requires-clause-latches
encoded_net-requires-clause-latches c = first_latches c.args.compiled c.requires.stands.0 c.requires.stands.1

pub returns-in-EncodedBlif-clause-net : goal.returns-in-EncodedBlif-clause-net
returns-in-EncodedBlif-clause-net c p h =
    let e = c.in_ok-net-in-EncodedBlif.ensures in
    rw c.in-EncodedBlif.is (encoded_is c.args.compiled p (netlist_of c.in_ok-net-in-EncodedBlif.net) h c.requires.follows
    (e.encodes p.body (own_tree c.args.compiled p h)) e.size e.simple)

pub encoded_net-requires-clause-few : goal.encoded_net-requires-clause-few
encoded_net-requires-clause-few c = few_nets c.args.compiled c.requires.stands.0 c.requires.stands.1

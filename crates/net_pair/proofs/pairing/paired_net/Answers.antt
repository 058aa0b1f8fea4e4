use Rattle.std.proofs.Common.{subst, sym}
use Rattle.net_ir.specs.Runs.{netlist_of}
use Rattle.net_pair.specs.Pairs.{IsPair}
use Rattle.net_pair.proofs.PairNets.{pair-is_pair}
use Rattle.net_pair.proofs.pairing.paired_net.Goals as goal

pub returns-clause-pair : goal.returns-clause-pair
returns-clause-pair c =
    let a = netlist_of c.args.left.now in
    let b = netlist_of c.args.right.now in
    subst (IsPair a b) (sym c.joined_net.ensures) (pair-is_pair a b c.args.left.now.is_net c.args.right.now.is_net c.requires.inputs c.requires.outputs)

use Rattle.net_ir.specs.Runs.{netlist_of}
use Rattle.net_opt.proofs.Parts.{names-net, names-same}
use Rattle.net_opt.proofs.assembling.joined_net.Goals as goal

pub invariant_of-result : goal.invariant_of-result
invariant_of-result c = record {
  is_net = names-net (netlist_of c.args.net.now) c.args.named c.args.parts c.args.net.now.is_net c.requires.names c.requires.parts;
}

pub returns : goal.returns
returns c = names-same (netlist_of c.args.net.now) c.args.named c.args.parts c.requires.names

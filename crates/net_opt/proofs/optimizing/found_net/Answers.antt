use Rattle.net_ir.specs.Runs.{netlist_of}
use Rattle.net_opt.proofs.optimizing.found_net.Goals as goal

pub returns : goal.returns
returns c =
    let net = netlist_of c.args.net.now in
    c.in_ok-passed_net.ensures net (c.in_ok-best.ensures net (c.in_ok-merged.ensures net c.in_ok-ordered.ensures))

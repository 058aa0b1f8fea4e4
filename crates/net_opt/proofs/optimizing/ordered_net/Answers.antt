use Rattle.net_ir.specs.Runs.{netlist_of}
use Rattle.net_opt.proofs.Replacing.{replaces-twice}
use Rattle.net_opt.proofs.optimizing.ordered_net.Goals as goal

pub returns-in-Some : goal.returns-in-Some
returns-in-Some c =
    let better = rw c.in-Some.is at c.in_ok-new.ensures in
    replaces-twice (netlist_of c.args.net.now) (netlist_of c.in_ok-begun.begun) (netlist_of c.in-Some.new) c.in_ok-begun.ensures.replaces better

use Rattle.net_ir.specs.Netlists.{Netlist}
use Rattle.net_ir.specs.Runs.{netlist_of}
use Rattle.net_opt.specs.Optimized.{Replaces}
use Rattle.net_opt.proofs.Replacing.{replaces-twice}
use Rattle.net_opt.proofs.optimizing.chosen.Goals as goal

pub returns-in-Some : goal.returns-in-Some
returns-in-Some c =
    let better = rw c.in-Some.is at c.requires in
    λ (given : Netlist) (so_far : Replaces given (netlist_of c.args.best)).
    replaces-twice given (netlist_of c.args.best) (netlist_of c.in-Some.net) so_far better

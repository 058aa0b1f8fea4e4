use Rattle.net_ir.specs.Netlists.{Netlist}
use Rattle.net_ir.specs.Runs.{netlist_of}
use Rattle.net_opt.specs.Optimized.{Replaces}
use Rattle.net_opt.proofs.Replacing.{replaces-twice}
use Rattle.net_opt.proofs.optimizing.rewritten_net.Goals as goal

pub returns-in_ok-remade-in-Some : goal.returns-in_ok-remade-in-Some
returns-in_ok-remade-in-Some c =
    let made = rw c.in-Some.is at c.in_ok-made.ensures in
    λ (given : Netlist) (so_far : Replaces given (netlist_of c.args.merged)).
    c.lighter_of.ensures given (c.in_ok-plain.ensures given so_far)
    (c.in_ok-remade-in-Some.ensures given (replaces-twice given (netlist_of c.args.merged) (netlist_of c.in-Some.other) so_far made))

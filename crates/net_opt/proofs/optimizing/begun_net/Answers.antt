use Rattle.std.proofs.Common.{sym, subst}
use Rattle.net_ir.specs.Netlists.{Netlist}
use Rattle.net_ir.specs.Runs.{netlist_of}
use Rattle.net_opt.specs.Optimized.{Optimizes}
use Rattle.net_opt.proofs.Replacing.{optimizes-then, silent-optimizes}
use Rattle.net_opt.proofs.optimizing.begun_net.Goals as goal

pub returns-in-Some : goal.returns-in-Some
returns-in-Some c =
    let net = netlist_of c.args.net.now in
    let begun = subst (λ (new : Netlist). Optimizes net new) (sym c.in_ok-silent.ensures) (silent-optimizes net) in
    let part = rw c.in-Some.is at c.in_ok-part.ensures.part in
    optimizes-then (netlist_of c.in_ok-silent.silent) (netlist_of c.in-Some.part) part.optimizes net begun

pub returns-in-None : goal.returns-in-None
returns-in-None c =
    let net = netlist_of c.args.net.now in
    subst (λ (new : Netlist). Optimizes net new) (sym c.in_ok-silent.ensures) (silent-optimizes net)

use Rattle.std.proofs.Common.{sym, subst}
use Rattle.net_ir.specs.Netlists.{Netlist}
use Rattle.net_ir.specs.Runs.{netlist_of}
use Rattle.net_opt.specs.Optimized.{SameInterface}
use Rattle.net_opt.proofs.Parts.{parts-interface}
use Rattle.net_opt.proofs.assembling.assembled_net.Goals as goal

pub returns : goal.returns
returns c =
    let net = netlist_of c.args.net.now in
    subst (λ (new : Netlist). SameInterface net new) (sym c.joined_net.ensures)
    (parts-interface net c.args.parts (c.are_parts.ensures c.if-not-are_parts.false))

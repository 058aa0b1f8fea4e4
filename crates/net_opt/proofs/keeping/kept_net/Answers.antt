use Rattle.std.proofs.Common.{sym, ap, ◌∙◌, subst}
use Rattle.net_ir.specs.Netlists.{Netlist, net_count}
use Rattle.net_ir.specs.Runs.{netlist_of}
use Rattle.net_simp.specs.Renaming.{stand_in}
use Rattle.net_opt.specs.Optimized.{Optimizes}
use Rattle.net_opt.proofs.KeptNets.{kept-has, kept-optimizes, parts-count}
use Rattle.net_opt.proofs.keeping.kept_net.Goals as goal

pub joined_net-requires-clause-parts : goal.joined_net-requires-clause-parts
joined_net-requires-clause-parts c =
    kept-has (netlist_of c.args.net.now) c.args.marks.now (stand_in c.deref.result.now) c.in_ok-parts.parts c.args.net.now.is_net c.requires
    c.in_ok-parts.ensures

pub returns-clause-optimizes : goal.returns-clause-optimizes
returns-clause-optimizes c =
    let net = netlist_of c.args.net.now in
    subst (λ (new : Netlist). Optimizes net new) (sym c.joined_net.ensures)
    (kept-optimizes net c.args.marks.now (stand_in c.deref.result.now) c.in_ok-parts.parts c.args.net.now.is_net c.requires c.in_ok-parts.ensures)

pub returns-clause-count : goal.returns-clause-count
returns-clause-count c =
    ap net_count c.joined_net.ensures
    ∙ parts-count (netlist_of c.args.net.now) c.args.marks.now (stand_in c.deref.result.now) c.in_ok-parts.parts c.requires c.in_ok-parts.ensures

use Rattle.std.proofs.Common.{rules, ◌+◌, sym, subst, arith}
use Rattle.est_kernel.specs.Plain.{term_of}
use Rattle.grc_graph.proofs.Exports.{statement_count-le}
use Rattle.grc_regions.specs.Regions.{AreRegionsBefore}
use Rattle.grc_regions.proofs.OwnHeads.{heads-free}
use Rattle.grc_regions.proofs.RegionReads.{one-more}
use Rattle.grc_regions.proofs.region_list.regions.Goals as goal

pub resumed_heads-requires : goal.resumed_heads-requires
resumed_heads-requires c = omega (arith, c.args.graph.now.laid_out.formed.body.size, statement_count-le (term_of c.args.graph.now.program.body))

pub loop-w-preserved : goal.loop-w-preserved
loop-w-preserved c =
    let g = c.args.graph.now in
    subst (AreRegionsBefore g (c.loop-w.w + 1)) (sym c.in_ok-push.ensures.items)
    (one-more g c.loop-w.w c.loop-w.regions.items c.region_of.result c.loop-w.invariant c.region_of.ensures)

pub returns-clause-free : goal.returns-clause-free
returns-clause-free c = heads-free c.args.graph.now c.loop-w.regions.items (search rules)

use Rattle.std.proofs.Common.{length, sym, ap, subst, arith}
use Rattle.std.proofs.lemmas.List.{length-map}
use Rattle.grc_graph.specs.PlainInstances.{instance_of}
use Rattle.grc_share.specs.Tables.{AreFirstWires}
use Rattle.grc_share.proofs.WireRanks.{firsts-all}
use Rattle.grc_share.proofs.tables.first_wires.Goals as goal

pub loop-i-init : goal.loop-i-init
loop-i-init c = record { each = ap length c.new-firsts.ensures.items; own = λ i l n. absurd (omega arith) }

pub returns : goal.returns
returns c =
    let g = c.args.graph.now in
    let m = c.args.numbers.now in
    subst (AreFirstWires g) (sym c.in_ok-push.ensures.items)
    (firsts-all g c.requires.built m.least.now m.instances.now m.wires.now c.requires.numbers c.loop-i.firsts.items c.loop-i.i c.args.count
    (omega (arith, length-map g.instances.list.items instance_of)) c.requires.count c.loop-i.invariant)

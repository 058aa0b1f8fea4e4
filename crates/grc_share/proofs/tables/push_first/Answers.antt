use Rattle.std.proofs.Common.{◌+◌, get_or, sym, ap, ◌∙◌, subst, arith}
use Rattle.std.proofs.lemmas.Bool.{eq-eqb, ne_eqb}
use Rattle.std.proofs.lemmas.List.{get_or_default, length-map}
use Rattle.grc_graph.specs.PlainInstances.{instance_of}
use Rattle.grc_share.specs.Tables.{AreFirstsOf}
use Rattle.grc_share.proofs.FirstWires.{firsts-other, firsts-own}
use Rattle.grc_share.proofs.InstanceNumbers.{tells}
use Rattle.grc_share.proofs.tables.push_first.Goals as goal

pub returns-in_ok-push : goal.returns-in_ok-push
returns-in_ok-push c =
    let g = c.args.graph.now in
    let m = c.args.numbers.now in
    let are = c.requires.numbers in
    let i = c.args.i in
    let told = tells g i (get_or m.least.now i (record { 0 = 0 })) c.requires.within
    (are.least_instances i (record { 0 = 0 }) (omega (arith, c.requires.within, are.each_least))) in
    subst (AreFirstsOf g m.wires.now (i + 1)) (sym c.in_ok-push.ensures.items)
    (firsts-own g m.wires.now i c.args.firsts.now.items (omega (arith, c.requires.within, length-map g.instances.list.items instance_of)) c.requires.firsts _
    (sym told ∙ eq-eqb _ i c.if-numbers-i.true)
    (ap (λ w. get_or m.wires.now w 0) (c.index.ensures
    ∙ get_or_default g.first_wires.items i c.index.result.now 0 (omega (arith, c.requires.within, g.tables.runs.each)))))

pub returns-else-numbers-i : goal.returns-else-numbers-i
returns-else-numbers-i c =
    let g = c.args.graph.now in
    let m = c.args.numbers.now in
    let are = c.requires.numbers in
    let i = c.args.i in
    let told = tells g i (get_or m.least.now i (record { 0 = 0 })) c.requires.within
    (are.least_instances i (record { 0 = 0 }) (omega (arith, c.requires.within, are.each_least))) in
    firsts-other g m.wires.now i c.args.firsts.now.items (omega (arith, c.requires.within, length-map g.instances.list.items instance_of)) c.requires.firsts
    (sym told ∙ ne_eqb _ i c.if-numbers-i.false)

use Rattle.std.proofs.Common.{◌≡◌, ◌<◌, ◌||◌, ◌&&◌, ◌==◌, false, Some, length, sym, ap, ◌∙◌, subst, arith}
use Rattle.est_kernel.specs.Plain.{term_of}
use Rattle.grc_graph.specs.declared.instances.Layer.{Layer}
use Rattle.grc_graph.specs.Layers.{Resumed, layer_above}
use Rattle.grc_graph.specs.LoopTables.{KeepsLoops}
use Rattle.grc_graph.specs.PlainGraphs.{lasting_in}
use Rattle.grc_graph.specs.PlainInstances.{layer_of}
use Rattle.grc_graph.specs.RowCosts.{with_lasting}
use Rattle.grc_graph.specs.Wires.{End}
use Rattle.grc_formulas.proofs.Lastings.{none-seen, resumed-seen, root-above, started-seen}
use Rattle.grc_formulas.proofs.held.sees_resumed.Goals as goal

pub returns-in-Resumed-clause-sees : goal.returns-in-Resumed-clause-sees
returns-in-Resumed-clause-sees c = λ V.
    let g = c.args.graph.now in
    let n = c.args.path in
    subst (λ (l : Layer). lasting_in g.loops (term_of g.program.body) V (End n (layer_of l) 1) ≡ (V (End n (layer_of l) 1) || false)) (sym c.in-Resumed.is)
    (resumed-seen g.loops (term_of g.program.body) V n)

pub index-requires : goal.index-requires
index-requires c =
    let kept = subst (λ o. KeepsLoops o (term_of c.args.graph.now.program.body)) c.in-Some.is c.args.graph.now.counted in
    omega (arith, c.requires.within, kept.0, c.in-Some.loops.ok.0)

pub returns-in-None-clause-sees : goal.returns-in-None-clause-sees
returns-in-None-clause-sees c = λ V.
    let g = c.args.graph.now in
    none-seen g.loops (term_of g.program.body) V c.args.path (layer_of c.args.layer) c.in-None.is

pub returns-in-Some-clause-sees : goal.returns-in-Some-clause-sees
returns-in-Some-clause-sees c = λ V.
    let g = c.args.graph.now in
    let body = term_of g.program.body in
    let n = c.args.path in
    let r = c.in-Started.root.0 in
    let a = c.index.result.now in
    let b = c.index-in-Some.result.now in
    let kept = subst (λ o. KeepsLoops o body) c.in-Some.is g.counted in
    let low : n < length c.in-Some.loops.items = omega (arith, c.requires.within, kept.0) in
    let up = root-above n r (subst (λ (l : Layer). layer_above n (layer_of l) ≡ layer_of l) c.in-Started.is c.requires.root) in
    subst (λ (l : Layer). lasting_in g.loops body V (End n (layer_of l) 1)
    ≡ (V (End n (layer_of l) 1) || ((a.inside == b.above) && V (End n Resumed 1)))) (sym c.in-Started.is)
    (started-seen g.loops c.in-Some.loops body V n r a b c.in-Some.is kept low (omega (arith, low, up)) c.index.ensures c.index-in-Some.ensures)

pub returns-in-Some-clause-rows : goal.returns-in-Some-clause-rows
returns-in-Some-clause-rows c = λ sees. ap (λ o. with_lasting o 0) c.in-Some.is

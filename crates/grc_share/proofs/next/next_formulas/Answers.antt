use Rattle.std.proofs.Common.{◌≡◌, ◌<◌, ◌∷◌, [], List, length, map, get_or, sym, ap, ◌∙◌, subst, arith}
use Rattle.std.specs.Prelude.{All, IsTrue}
use Rattle.std.proofs.lemmas.List.Elements.{All-append, All-cons, All-nil}
use Rattle.est_kernel.specs.Plain.{program_of}
use Rattle.grc_graph.specs.declared.formulas.Formula.{Formula}
use Rattle.grc_graph.specs.GraphShapes.{formula_fits}
use Rattle.grc_graph.specs.PlainGraphs.{formula_of, instances_of, names_of}
use Rattle.grc_share.specs.Renamings.{StandsIn, named_starts}
use Rattle.grc_share.specs.SharedGraphs.{shared_instances}
use Rattle.grc_share.specs.SharedInstances.{body_sharing}
use Rattle.grc_share.specs.SharedWires.{shared_wires}
use Rattle.grc_share.proofs.NextFormulas.{leaf-more, leaves-all}
use Rattle.grc_share.proofs.next.next_formulas.Goals as goal

pub loop-formula-preserved : goal.loop-formula-preserved
loop-formula-preserved c =
    let g = c.args.graph.now in
    let p = program_of g.program in
    let K = body_sharing p.body in
    let i = c.loop-formula.formula-index in
    let made = c.in_ok-shared.shared in
    let items = c.deref-formula-items.result.now in
    let low : i < length g.next.items = omega (arith, c.loop-formula-test.true, ap length c.deref-formula-items.ensures.value) in
    let here : c.formula-item.result ≡ get_or g.next.items i c.formula-item.result =
    c.formula-item.is ∙ ap (λ (fs : List Formula). get_or fs i c.formula-item.result) c.deref-formula-items.ensures.value in
    let stands = subst (λ (f : Formula). StandsIn p (named_starts K (formula_of (instances_of g) (names_of g) f)) made) here c.in_ok-shared.ensures in
    let fits = λ (f : Formula). IsTrue (formula_fits (length (shared_instances p)) (length (shared_wires p)) f) in
    record {
      same = ap (map (formula_of (shared_instances p) (shared_wires p))) c.in_ok-push.ensures.items
          ∙ leaf-more g c.requires.built i c.formula-item.result made c.loop-formula.list.items low stands c.loop-formula.invariant.same;
      fit = subst (λ l. All fits l) (sym c.in_ok-push.ensures.items)
          (All-append fits c.loop-formula.list.items (made ∷ []) c.loop-formula.invariant.fit
          (All-cons fits made [] c.in_ok-shared.ensures.fits (All-nil fits)));
    }

pub returns-clause-same : goal.returns-clause-same
returns-clause-same c =
    let g = c.args.graph.now in
    leaves-all g c.requires.built c.loop-formula.formula-index _
    (omega (arith, c.loop-formula-test.false, ap length c.deref-formula-items.ensures.value)) c.loop-formula.invariant.same

use Rattle.std.proofs.Common.{◌≡◌, ◌+◌, ◌<◌, false, length, slice_index_or, sym, ap, ◌∙◌, subst, arith}
use Rattle.grc_graph.specs.declared.formulas.Formula.TheVariants.{Const}
use Rattle.std.proofs.lemmas.List.{get_or_default}
use Rattle.grc_ternary_run.specs.Meanings.{GateMade, meaning_of}
use Rattle.grc_ternary_run.specs.Systems.{GatesMade, equation_at}
use Rattle.grc_ternary_run.proofs.SystemSteps.{gates-more}
use Rattle.grc_ternary_run.proofs.systems.make_gates.Goals as goal

pub loop-formula-preserved : goal.loop-formula-preserved
loop-formula-preserved c =
    let m = c.args.making.now in
    let at = c.loop-formula.formula-index in
    let items = m.graph.now.equations.items in
    let x = c.formula-item.result in
    let many = ap length c.as_slice-formula-items.ensures.value in
    let low : at < length items = omega (arith, many, c.loop-formula-test.true) in
    let is : x ≡ equation_at m.graph.now at =
    c.formula-item.is ∙ ap (λ xs. slice_index_or xs at x) c.as_slice-formula-items.ensures.value ∙ get_or_default items at x (Const false) low in
    let one = subst (λ f. GateMade m c.loop-formula.table.items c.make_gate.new.table.items c.in_ok-gate.gate (meaning_of m f)) is c.in_ok-gate.ensures in
    subst (λ gs. GatesMade m c.make_gate.new.table.items gs (at + 1)) (sym c.in_ok-push.ensures.items)
    (gates-more m c.loop-formula.table.items c.make_gate.new.table.items c.loop-formula.gates.items at c.in_ok-gate.gate c.loop-formula.invariant one)

use Rattle.std.proofs.Common.{◌≡◌, ◌+◌, ◌<◌, [], rules, length, slice_index_or, sym, ap, ◌∙◌, subst, arith, IsTrue}
use Rattle.grc_graph.specs.declared.formulas.Formula.{Formula}
use Rattle.grc_graph.specs.GraphShapes.{formula_fits}
use Rattle.net_cycles.specs.Bases.{NextMade}
use Rattle.net_cycles.proofs.Lowering.{next-begun, next-more, whole-stays}
use Rattle.net_cycles.proofs.following.next_nets.Goals as goal

pub loop-formula-init : goal.loop-formula-init
loop-formula-init c =
    let none : c.new-made.result.items ≡ [] = search rules in
    record {
      made = subst (λ l. NextMade c.args.nets.now c.args.gates.now c.args.gates.now l 0) (sym none)
          (next-begun c.args.nets.now c.args.gates.now c.requires.whole);
    }

pub lower-requires-clause-whole : goal.lower-requires-clause-whole
lower-requires-clause-whole c =
    whole-stays c.args.nets.now c.args.gates.now c.loop-formula.gates c.requires.whole c.loop-formula.invariant.made.grew

pub lower-requires-clause-fits : goal.lower-requires-clause-fits
lower-requires-clause-fits c =
    let g = c.args.nets.now.graph.now in
    let j = c.loop-formula.formula-index in
    let f = c.formula-item.result in
    let h : j < length g.next.items = omega (arith, ap length c.as_slice-formula-items.ensures.value) in
    let is : f ≡ slice_index_or g.next.items j f = c.formula-item.is ∙ ap (λ xs. slice_index_or xs j f) c.as_slice-formula-items.ensures.value in
    subst (λ (x : Formula). IsTrue (formula_fits (length g.instances.list.items) (length g.wires.items) x)) (sym is) (g.indices.next_fit j f h)

pub loop-formula-preserved : goal.loop-formula-preserved
loop-formula-preserved c =
    let n = c.args.nets.now in
    let g = n.graph.now in
    let j = c.loop-formula.formula-index in
    let f = c.formula-item.result in
    let h : j < length g.next.items = omega (arith, ap length c.as_slice-formula-items.ensures.value) in
    let is : f ≡ slice_index_or g.next.items j f = c.formula-item.is ∙ ap (λ xs. slice_index_or xs j f) c.as_slice-formula-items.ensures.value in
    let step = next-more n c.args.gates.now c.loop-formula.gates c.lower.new.gates c.loop-formula.made.items j f c.in_ok-net.net c.requires.whole
    c.loop-formula.invariant.made h is c.in_ok-net.ensures in
    record { made = subst (λ xs. NextMade n c.args.gates.now c.lower.new.gates xs (j + 1)) (sym c.in_ok-push.ensures.items) step }

pub returns : goal.returns
returns c =
    let n = c.args.nets.now in
    let whole : c.loop-formula.formula-index ≡ length n.graph.now.next.items = omega (arith, ap length c.as_slice-formula-items.ensures.value) in
    subst (λ k. NextMade n c.args.gates.now c.loop-formula.gates c.loop-formula.made.items k) whole c.loop-formula.invariant.made

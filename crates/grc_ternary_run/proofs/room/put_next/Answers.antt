use Rattle.std.proofs.Common.{◌≡◌, ◌<◌, [], ◌∷◌, ◌++◌, length, map, take, slice_index_or, sym, ap, ◌∙◌, arith}
use Rattle.std.proofs.lemmas.List.{map_more, take_all, take_more_set, length-set}
use Rattle.base_facts.proofs.Lists.{map-composed}
use Rattle.grc_graph.specs.declared.formulas.Formula.{Formula}
use Rattle.grc_graph.specs.PlainGraphs.{formula_of, instances_of, names_of}
use Rattle.grc_evaluate.specs.Evaluations.{formula_under}
use Rattle.grc_evaluate.proofs.Exports.{known-late}
use Rattle.grc_ternary_run.proofs.room.put_next.Goals as goal

pub evaluate-requires-clause-known : goal.evaluate-requires-clause-known
evaluate-requires-clause-known c =
    known-late (length c.args.rows.now ≡ length c.args.words.now.rows.items) c.formula-item.result c.requires.late.all

pub loop-leaf-preserved : goal.loop-leaf-preserved
loop-leaf-preserved c =
    let inv = c.loop-leaf.invariant in
    let g = c.args.graph.now in
    let F = λ (f : Formula). formula_under g c.args.start.now c.args.wires.now (formula_of (instances_of g) (names_of g) f) in
    let items = g.next.items in
    let at = c.loop-leaf.leaf in
    let f = c.formula-item.result in
    let v = c.evaluate.result in
    let many = ap length c.deref-formula-items.ensures.value in
    let room = c.requires.room in
    let same = inv.len in
    let test = c.loop-leaf-test.true in
    let low : at < length items = omega arith in
    let is : f ≡ slice_index_or items at f = c.formula-item.is ∙ ap (λ xs. slice_index_or xs at f) c.deref-formula-items.ensures.value in
    record {
      len = length-set c.loop-leaf.next.items at v ∙ same;
      front = take_more_set c.loop-leaf.next.items at v (omega arith) ∙ ap (λ xs. xs ++ v ∷ []) inv.front
          ∙ ap (λ b. map F (take at items) ++ b ∷ []) (c.evaluate.ensures ∙ ap F is) ∙ sym (map_more F items at f low);
    }

pub returns : goal.returns
returns c =
    let inv = c.loop-leaf.invariant in
    let g = c.args.graph.now in
    let items = g.next.items in
    let at = c.loop-leaf.leaf in
    let F = λ (f : Formula). formula_under g c.args.start.now c.args.wires.now (formula_of (instances_of g) (names_of g) f) in
    let many = ap length c.deref-formula-items.ensures.value in
    let room = c.requires.room in
    let same = inv.len in
    let test = c.loop-leaf-test.false in
    sym (take_all at c.loop-leaf.next.items (omega arith)) ∙ inv.front ∙ ap (map F) (take_all at items (omega arith))
    ∙ map-composed (formula_under g c.args.start.now c.args.wires.now) (formula_of (instances_of g) (names_of g)) items

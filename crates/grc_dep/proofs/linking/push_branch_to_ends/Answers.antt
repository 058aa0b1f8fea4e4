use Rattle.std.proofs.Common.{◌∙◌, ◌++◌, ap, sym, arith}
use Rattle.std.specs.Prelude.{flat_map}
use Rattle.std.proofs.lemmas.List.{append-nil}
use Rattle.base_types.specs.CodeSet.{members}
use Rattle.grc_graph.specs.PlainInstances.{instance_of}
use Rattle.grc_graph.specs.Wires.{End}
use Rattle.grc_graph.specs.Edges.{edges_if}
use Rattle.grc_dep.specs.Families.{to_ends_above, branch_edges}
use Rattle.grc_dep.specs.Found.{found_by}
use Rattle.grc_dep.proofs.Founds.{codes_begin, codes_step, codes_end, flat_map_adds}
use Rattle.grc_dep.proofs.linking.push_branch_to_ends.Goals as goal

pub loop-code-init : goal.loop-code-init
loop-code-init c =
    let part = instance_of c.args.part in
    let whole = instance_of c.args.whole in
    let g = branch_edges (members c.args.whole_codes) part whole in
    codes_begin _ (flat_map g) (members c.args.codes) _ (flat_map_adds g)

pub loop-code-preserved : goal.loop-code-preserved
loop-code-preserved c =
    let part = instance_of c.args.part in
    let whole = instance_of c.args.whole in
    let g = branch_edges (members c.args.whole_codes) part whole in
    let k = c.loop-code.code in
    codes_step _ (flat_map g) (members c.args.codes) k c.has-holds.result _ _ _ (flat_map_adds g) c.has-holds.ensures c.loop-code.invariant
    (c.in_ok-push_to_ends_above.ensures ∙ (λ i. c.loop-code.pairs.items ++ found_by c.args.lookups.now (edges_if c.has-holds.result
    (to_ends_above (members c.args.whole_codes) (End part.path (c.requires i) k) k whole.path whole.layer)))
    ∙ ap (λ es. c.loop-code.pairs.items ++ found_by c.args.lookups.now (edges_if c.has-holds.result es)) (sym (append-nil (g k))))

pub returns : goal.returns
returns c =
    let part = instance_of c.args.part in
    let whole = instance_of c.args.whole in
    let g = branch_edges (members c.args.whole_codes) part whole in
    codes_end _ (flat_map g) (members c.args.codes) c.loop-code.code _ _ _ (omega arith) c.codes_end-code-end.ensures.all c.loop-code.invariant

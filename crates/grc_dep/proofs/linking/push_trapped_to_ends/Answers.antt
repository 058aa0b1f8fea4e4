use Rattle.std.proofs.Common.{◌∙◌, ◌++◌, ◌∷◌, [], map, arith}
use Rattle.base_types.specs.CodeSet.{members}
use Rattle.grc_graph.specs.PlainInstances.{instance_of, layer_of}
use Rattle.grc_graph.specs.Wires.{End}
use Rattle.grc_graph.specs.Edges.{edge, edges_if}
use Rattle.grc_dep.specs.Families.{trapped_to_end}
use Rattle.grc_dep.specs.Found.{found_by}
use Rattle.grc_dep.proofs.Founds.{codes_begin, codes_step, codes_end, map_adds}
use Rattle.grc_dep.proofs.linking.push_trapped_to_ends.Goals as goal

pub loop-code-init : goal.loop-code-init
loop-code-init c = codes_begin _ (map (trapped_to_end (instance_of c.args.part) (instance_of c.args.whole))) (members c.args.codes) _ (map_adds _)

pub loop-code-preserved : goal.loop-code-preserved
loop-code-preserved c =
    codes_step _ (map (trapped_to_end (instance_of c.args.part) (instance_of c.args.whole))) (members c.args.codes)
    c.loop-code.code c.has-holds.result _ _ _ (map_adds _)
    c.has-holds.ensures c.loop-code.invariant (c.in_ok-push_edge_if.ensures ∙ λ i. c.loop-code.pairs.items
    ++ found_by c.args.lookups.now (edges_if c.has-holds.result (edge (End c.args.part.path.0 (c.requires i) c.loop-code.code)
    (End c.args.whole.path.0 (layer_of c.args.whole.layer) (c.trap_code.ensures i)) ∷ [])))

pub returns : goal.returns
returns c =
    codes_end _ (map (trapped_to_end (instance_of c.args.part) (instance_of c.args.whole))) (members c.args.codes) c.loop-code.code _ _ _ (omega arith)
    c.codes_end-code-end.ensures.all c.loop-code.invariant

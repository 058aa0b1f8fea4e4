use Rattle.std.proofs.Common.{map, arith}
use Rattle.base_types.specs.CodeSet.{members}
use Rattle.grc_graph.specs.PlainInstances.{instance_of}
use Rattle.grc_dep.specs.Families.{end_to_end}
use Rattle.grc_dep.proofs.Founds.{codes_begin, codes_step, codes_end, map_adds}
use Rattle.grc_dep.proofs.linking.push_ends_to_ends.Goals as goal

pub loop-code-init : goal.loop-code-init
loop-code-init c = codes_begin _ (map (end_to_end (instance_of c.args.part) (instance_of c.args.whole))) (members c.args.codes) _ (map_adds _)

pub loop-code-preserved : goal.loop-code-preserved
loop-code-preserved c =
    codes_step _ (map (end_to_end (instance_of c.args.part) (instance_of c.args.whole))) (members c.args.codes)
    c.loop-code.code c.has-holds.result _ _ _ (map_adds _)
    c.has-holds.ensures c.loop-code.invariant c.in_ok-push_edge_if.ensures

pub returns : goal.returns
returns c =
    codes_end _ (map (end_to_end (instance_of c.args.part) (instance_of c.args.whole))) (members c.args.codes) c.loop-code.code _ _ _ (omega arith)
    c.codes_end-code-end.ensures.all c.loop-code.invariant

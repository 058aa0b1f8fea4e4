use Rattle.net_relations.proofs.Said.{kept-more}
use Rattle.net_relations.proofs.implications.implications_of.Goals as goal

pub loop-relation-preserved : goal.loop-relation-preserved
loop-relation-preserved c =
    kept-more c.args.relations.now c.args.inputs c.loop-relation.relation-index c.relation-item.result c.loop-relation.list.items c.push_relation.new.list.items
    c.loop-relation-test.true c.relation-item.is c.loop-relation.invariant c.in_ok-push_relation.ensures

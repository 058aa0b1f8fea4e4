use Rattle.std.proofs.Common.{◌∙◌, sym}
use Rattle.grc_graph.specs.declared.trees.SelNode.{SelNode}
use Rattle.net_state_enc.proofs.TreePlaces.{second_found}
use Rattle.net_state_enc.proofs.trees.second_part.Goals as goal

pub returns-then-is_next : goal.returns-then-is_next
returns-then-is_next c =
    let found = λ (d : SelNode). second_found c.args.tree.now.nodes.items c.args.tree.now.nested c.args.at d c.index-node.result.now c.index.result.now
    c.index-then-is_next.result.now
    c.requires c.index-node.ensures c.index.ensures c.index-then-is_next.ensures c.if-next-node.true (sym c.is_next.ensures ∙ c.if-is_next.true) in
    record {
      place = λ d. (found d).place;
      after = (found c.index-node.result.now).after;
      within = λ d. (found d).within;
    }

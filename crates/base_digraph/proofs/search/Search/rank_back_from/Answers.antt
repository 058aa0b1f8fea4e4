use Rattle.base_digraph.proofs.Steps.{StepsOn-root, root_met}
use Rattle.base_digraph.proofs.search.Search.rank_back_from.Goals as goal

pub loop-node-init : goal.loop-node-init
loop-node-init c =
    let r = c.requires in
    let old = c.args.self.now in
    let entered = StepsOn-root c.args.edges.now old c.enter.new.self c.args.root c.index.result.now r.is_node c.in_ok-enter.ensures r.search r.between
    c.index.ensures (cc) in
    record {
      search = entered.search;
      stays = entered.stays;
      root_met = root_met c.args.edges.now old c.enter.new.self c.args.root c.index.result.now r.is_node c.in_ok-enter.ensures;
    }

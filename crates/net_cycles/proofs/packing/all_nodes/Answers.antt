use Rattle.std.proofs.Common.{◌+◌, [], ◌∷◌, ◌++◌, refl, sym, ap, ◌∙◌}
use Rattle.net_cycles.proofs.Packed.{nodes-more}
use Rattle.net_cycles.proofs.packing.all_nodes.Goals as goal

pub loop-node-preserved : goal.loop-node-preserved
loop-node-preserved c =
    c.in_ok-push.ensures.items ∙ ap (λ l. l ++ c.loop-node.node ∷ []) c.loop-node.invariant
    ∙ sym (nodes-more c.loop-node.node (c.loop-node.node + 1) refl)

use Rattle.std.proofs.Common.{◌+◌, ◌-◌, ◌*◌, length}
use Rattle.net_state_enc.proofs.trees.+subtrees.Given as goal

abbrev pub decreases-tree_between : goal.decreases-tree_between
decreases-tree_between l = 2 * (length l.tree.now.nodes.items - l.from) + 1

abbrev pub decreases-tree_at : goal.decreases-tree_at
decreases-tree_at l = 2 * (length l.tree.now.nodes.items - l.at)

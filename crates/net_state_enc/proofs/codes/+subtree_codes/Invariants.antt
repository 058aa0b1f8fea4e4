use Rattle.std.proofs.Common.{◌+◌}
use Rattle.net_state_enc.proofs.TreeWeights.{weight}
use Rattle.net_state_enc.proofs.codes.+subtree_codes.Given as goal

abbrev pub decreases-add_codes : goal.decreases-add_codes
decreases-add_codes l = weight l.tree.now + weight l.tree.now

abbrev pub decreases-add_both : goal.decreases-add_both
decreases-add_both l = weight l.a.now + weight l.a.now + (weight l.b.now + weight l.b.now) + 1

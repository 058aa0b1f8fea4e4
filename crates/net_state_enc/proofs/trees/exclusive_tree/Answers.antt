use Rattle.std.proofs.Common.{sym, subst}
use Rattle.net_state_enc.specs.Extents.{AreSlight}
use Rattle.net_state_enc.proofs.trees.exclusive_tree.Goals as goal

pub exclusive_sizes-sizes-requires-clause-first : goal.exclusive_sizes-sizes-requires-clause-first
exclusive_sizes-sizes-requires-clause-first c = subst AreSlight (sym c.sizes_of.ensures.sizes) c.requires.first_slight

pub exclusive_sizes-sizes-requires-clause-second : goal.exclusive_sizes-sizes-requires-clause-second
exclusive_sizes-sizes-requires-clause-second c = subst AreSlight (sym c.sizes_of-2.ensures.sizes) c.requires.second_slight

use Rattle.std.proofs.Common.{sym, subst}
use Rattle.net_state_enc.specs.Extents.{AreSlight}
use Rattle.net_state_enc.proofs.trees.parallel_tree.Goals as goal

pub parallel_sizes-sizes-requires-clause-first : goal.parallel_sizes-sizes-requires-clause-first
parallel_sizes-sizes-requires-clause-first c = subst AreSlight (sym c.sizes_of.ensures.sizes) c.requires.first_slight

pub parallel_sizes-sizes-requires-clause-second : goal.parallel_sizes-sizes-requires-clause-second
parallel_sizes-sizes-requires-clause-second c = subst AreSlight (sym c.sizes_of-2.ensures.sizes) c.requires.second_slight

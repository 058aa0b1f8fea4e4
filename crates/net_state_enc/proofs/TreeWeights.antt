-- The size of a tree, which falls from a tree to its parts.
use Rattle.std.proofs.Common.{ℕ, ◌+◌}
use Rattle.net_state_enc.specs.declared.trees.CodeTree.{CodeTree}
use Rattle.net_state_enc.specs.declared.trees.CodeTree.TheVariants as trees

abbrev pub weight : CodeTree → ℕ
weight trees.NoLeaf = 1
weight (trees.OneLeaf k) = 1
weight (trees.OneOf' sizes _ a _ b) = weight a + weight b + 1
weight (trees.AllOf' sizes x y _ a _ b) = weight a + weight b + 1

-- Inner: the leaves of a list of nodes of a selection tree.
use Rattle.std.specs.Prelude.{ℕ, List, [], ◌∷◌, ◌++◌}
use Rattle.grc_graph.specs.SelectionTrees.{Form, Leaf, Exclusive, Parallel, Passing, TreeNode}

abbrev pub path_if_leaf : Form → ℕ → List ℕ
path_if_leaf (Leaf k) n = n ∷ []
path_if_leaf Exclusive n = []
path_if_leaf (Parallel a b) n = []
path_if_leaf Passing n = []

-- the paths of the leaves, in order
abbrev pub leaves_in : List TreeNode → List ℕ
leaves_in [] = []
leaves_in (x ∷ xs) = path_if_leaf x.form x.path ++ leaves_in xs

-- To believe: the plain form of a selection tree, and what its list of nodes keeps.
use Rattle.std.specs.Prelude.{◌≡◌, ℕ, ◌<◌, ◌≤◌, Bool, true, false, ◌==◌, IsTrue, List, length, take}
use Rattle.std.specs.Prelude.{slice_index_or, count_by}
use Rattle.grc_graph.specs.declared.trees.SelForm.{SelForm}
use Rattle.grc_graph.specs.declared.trees.SelForm.TheVariants as forms
use Rattle.grc_graph.specs.declared.trees.SelNode.{SelNode}
use Rattle.grc_graph.specs.SelectionTrees.{Form, Leaf, Exclusive, Parallel, Passing, TreeNode}

abbrev pub form_of : SelForm → Form
form_of (forms.Leaf k) = Leaf k
form_of forms.Excl = Exclusive
form_of (forms.Par a b) = Parallel a b
form_of forms.Pass = Passing

abbrev pub tree_node : SelNode → TreeNode
tree_node x = record { path = x.path.0; after = x.after; form = form_of x.form }

abbrev pub is_leaf : SelForm → Bool
is_leaf (forms.Leaf k) = true
is_leaf forms.Excl = false
is_leaf (forms.Par a b) = false
is_leaf forms.Pass = false

-- the place after the subtree of the node at a place
abbrev pub end_of : List SelNode → ℕ → SelNode → ℕ
end_of nodes i d = (slice_index_or nodes i d).after

-- each subtree has its node, ends within the list, and has the subtrees of its nodes whole
pub record SubtreesNest (nodes : List SelNode) : Type 0 where
  pub begun : (i : ℕ) (d : SelNode) → i < length nodes → i < end_of nodes i d
  pub ended : (i : ℕ) (d : SelNode) → i < length nodes → end_of nodes i d ≤ length nodes
  pub whole : (i j : ℕ) (d : SelNode) → j < length nodes → i < j → j < end_of nodes i d →
      end_of nodes j d ≤ end_of nodes i d

-- the leaves in front of a place
abbrev pub leaves_before : List SelNode → ℕ → ℕ
leaves_before nodes i = count_by (λ x. is_leaf x.form) (take i nodes)

-- whether a leaf has this number; other nodes have none
abbrev pub is_numbered : SelForm → ℕ → Bool
is_numbered (forms.Leaf k) before = k == before
is_numbered forms.Excl before = true
is_numbered (forms.Par a b) before = true
is_numbered forms.Pass before = true

-- the leaves are numbered in order, and there are so many
pub record LeavesAscend (nodes : List SelNode) (leaves : ℕ) : Type 0 where
  pub numbered : (i : ℕ) (d : SelNode) → i < length nodes →
      IsTrue (is_numbered (slice_index_or nodes i d).form (leaves_before nodes i))
  pub counted : leaves ≡ count_by (λ x. is_leaf x.form) nodes

-- Inner: what a selection tree's list of nodes comes to, read from a place on.
use Rattle.std.specs.Prelude.{◌≡◌, ℕ, ◌+◌, ◌==◌, ◌&&◌, nat_lt, Bool, if◌then◌else◌, List, ◌++◌, length, map}
use Rattle.std.specs.Prelude.{slice_index_or}
use Rattle.est_kernel.specs.Terms.{Term}
use Rattle.grc_graph.specs.declared.trees.SelNode.{SelNode}
use Rattle.grc_graph.specs.SelectionFolds.{fold_tree}
use Rattle.grc_graph.specs.SelectionTrees.{Form, TreeNode, tree_nodes}
use Rattle.grc_graph.specs.TreeForms.{tree_node, end_of}

-- the nodes from one place up to another are those of a statement
pub record StandsBetween (nodes : List SelNode) (from to : ℕ) (b : Bool) (t : Term) (n k : ℕ)
    (pre post : List TreeNode) : Type 0 where
  pub nodes_all : map tree_node nodes ≡ pre ++ (tree_nodes b t n (length pre) k ++ post)
  pub begins : from ≡ length pre
  pub ends : to ≡ length pre + length (tree_nodes b t n (length pre) k)

-- whatever statement has the nodes from one place up to another, its tree comes to this
abbrev pub Folds : {X : Type 0} → X → (Form → X → X → X) → List SelNode → (from to : ℕ) → X → Type 0
Folds none join nodes from to x =
    (b : Bool) (t : Term) (n k : ℕ) (pre post : List TreeNode) → StandsBetween nodes from to b t n k pre post
    → x ≡ fold_tree none join b t n k

-- Where the nodes of the second part begin, of the node at a place: after those of the first part, where that has
-- the next number and so is there.
abbrev pub second_place : List SelNode → ℕ → SelNode → ℕ
second_place nodes i d =
    if nat_lt (i + 1) (end_of nodes i d) && (slice_index_or nodes (i + 1) d).path.0
    == (slice_index_or nodes i d).path.0 + 1
    then end_of nodes (i + 1) d else i + 1

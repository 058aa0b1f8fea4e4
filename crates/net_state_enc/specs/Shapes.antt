-- Inner: selection trees without the nodes that pass a selection on.
use Rattle.std.specs.Prelude.{ℕ, Bool, true, false, ◌&&◌, ◌||◌}
use Rattle.grc_graph.specs.SelectionTrees.{Form, Leaf, Exclusive, Parallel, Passing}
use Rattle.grc_graph.specs.Selections.{at_most_one, each_or_over}
use Rattle.est_kernel.specs.Terms.{Term}
use Rattle.grc_graph.specs.SelectionFolds.{fold_tree}
use Rattle.net_state_enc.specs.Widths.{Widths, no_widths, leaf_widths, exclusive_widths, parallel_widths}

-- No node; a leaf with its number; an exclusive node; a parallel with the marks of its branches.
pub data Shape : Type 0 where
  NoLeaf : Shape
  OneLeaf : (k : ℕ) → Shape
  OneOf : (a b : Shape) → Shape
  AllOf : (x y : Bool) (a b : Shape) → Shape

abbrev pub widths_of : Shape → Widths
widths_of NoLeaf = no_widths
widths_of (OneLeaf k) = leaf_widths
widths_of (OneOf a b) = exclusive_widths (widths_of a) (widths_of b)
widths_of (AllOf x y a b) = parallel_widths x y (widths_of a) (widths_of b)

-- whether one of these leaves is selected
abbrev pub holds_in : (ℕ → Bool) → Shape → Bool
holds_in S NoLeaf = false
holds_in S (OneLeaf k) = S k
holds_in S (OneOf a b) = holds_in S a || holds_in S b
holds_in S (AllOf x y a b) = holds_in S a || holds_in S b

-- whether the leaves are selected as the tree wants
abbrev pub formed_in : (ℕ → Bool) → Shape → Bool
formed_in S NoLeaf = true
formed_in S (OneLeaf k) = true
formed_in S (OneOf a b) = at_most_one (holds_in S a) (holds_in S b) && (formed_in S a && formed_in S b)
formed_in S (AllOf x y a b) =
    each_or_over (holds_in S a) x (holds_in S b) y && (formed_in S a && formed_in S b)

-- the shape of a node from those of its parts
abbrev pub joined_shape : Form → Shape → Shape → Shape
joined_shape (Leaf k) a b = OneLeaf k
joined_shape Exclusive a b = OneOf a b
joined_shape (Parallel x y) a b = AllOf x y a b
joined_shape Passing a b = a

-- the shape of a statement's tree
abbrev pub shape_of : Bool → Term → (n k : ℕ) → Shape
shape_of b t n k = fold_tree NoLeaf joined_shape b t n k

-- To believe: how many latches a netlist has whose latches hold the code of a program's state.
use Rattle.std.specs.Prelude.{ℕ, ◌+◌, min, nat_le, if◌then◌else◌, length}
use Rattle.est_kernel.specs.Terms.{Term}
use Rattle.grc_graph.specs.SelectionTrees.{Form, Leaf, Exclusive, Parallel, Passing, resumes, body_leaves}
use Rattle.grc_graph.specs.SelectionFolds.{fold_tree}
use Rattle.net_state_enc.specs.Widths.{Widths, no_widths, leaf_widths, exclusive_widths, parallel_widths}

-- the widths of a node from those of its parts
abbrev pub joined_widths : Form → Widths → Widths → Widths
joined_widths (Leaf k) a b = leaf_widths
joined_widths Exclusive a b = exclusive_widths a b
joined_widths (Parallel x y) a b = parallel_widths x y a b
joined_widths Passing a b = a

-- the widths of a body's selection tree
abbrev pub tree_widths : Term → Widths
tree_widths body = fold_tree no_widths joined_widths (resumes body) body 0 0

-- the greatest number of leaves whose state is coded
abbrev pub leaves_at_most : ℕ
leaves_at_most = 1024

-- The bits of the code: where there are not too many leaves, as many as the tree is wide, if these are fewer than one
-- for each leaf.
abbrev pub encoded_bits : Term → ℕ
encoded_bits body =
    if nat_le (length (body_leaves body)) leaves_at_most
    then min (length (body_leaves body)) (tree_widths body).loose
    else length (body_leaves body)

-- and the latch that tells the first instant
abbrev pub encoded_count : Term → ℕ
encoded_count body = 1 + encoded_bits body

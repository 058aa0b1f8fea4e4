-- Inner: what the selected leaves of a subtree say, by their numbers.
use Rattle.std.specs.Prelude.{ℕ, Bool, true, false, ◌&&◌, ◌||◌, List, slice_index_or}
use Rattle.est_kernel.specs.Terms.{Term}
use Rattle.grc_graph.specs.Selections.{at_most_one, each_or_over}
use Rattle.grc_graph.specs.SelectionFolds.{fold_tree}
use Rattle.grc_graph.specs.SelectionTrees.{Form, Leaf, Exclusive, Parallel, Passing}

-- whether a subtree holds a selected leaf, and whether its leaves are selected as its forms want
pub record Judgement : Type 0 where
  pub holds : Bool
  pub formed : Bool

abbrev pub none_selected : Judgement
none_selected = record { holds = false; formed = true }

-- the judgement of a node from those of its parts
abbrev pub combined : List Bool → Form → Judgement → Judgement → Judgement
combined bits (Leaf k) a b = record { holds = slice_index_or bits k false; formed = true }
combined bits Exclusive a b = record {
  holds = a.holds || b.holds;
  formed = at_most_one a.holds b.holds && (a.formed && b.formed);
}
combined bits (Parallel x y) a b = record {
  holds = a.holds || b.holds;
  formed = each_or_over a.holds x b.holds y && (a.formed && b.formed);
}
combined bits Passing a b = a

-- the judgement of a statement at n, whose resumed instance is live where b holds, and whose first leaf has the
-- number k
abbrev pub judgement : List Bool → Bool → Term → (n k : ℕ) → Judgement
judgement bits b t n k = fold_tree none_selected (combined bits) b t n k

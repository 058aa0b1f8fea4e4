-- To believe: what the nodes of a selection tree come to, one from those of its parts.
use Rattle.std.specs.Prelude.{ℕ, ◌+◌, Bool, if◌then◌else◌, length}
use Rattle.est_kernel.specs.Terms.{Term, Nothing, Pause, Emit, Exit, Present, Suspend, Seq, Loop, Par, Trap, Local}
use Rattle.est_kernel.specs.Terms.{Awake}
use Rattle.est_kernel.specs.Preorder.{statement_count}
use Rattle.grc_graph.specs.Layers.{can_pass}
use Rattle.grc_graph.specs.SelectionTrees.{Form, Leaf, Exclusive, Parallel, Passing, resumes, second_resumes}
use Rattle.grc_graph.specs.SelectionTrees.{leaf_paths}

-- The tree of a statement at n, whose resumed instance is live where b holds, and whose first leaf has the number k: a
-- node comes to what join makes of its form and of its parts, of which there may be fewer than two, and no node to
-- none.
abbrev pub fold_tree : {X : Type 0} → X → (Form → X → X → X) → Bool → Term → (n k : ℕ) → X
fold_tree none join b Nothing n k = none
fold_tree none join b Pause n k = if b then join (Leaf k) none none else none
fold_tree none join b (Emit s) n k = none
fold_tree none join b (Exit c) n k = none
fold_tree none join b (Present e p q) n k =
    if b then join Exclusive (fold_tree none join (resumes p) p (n + 1) k)
    (fold_tree none join (resumes q) q (n + 1 + statement_count p) (k + length (leaf_paths (resumes p) p (n + 1))))
    else none
fold_tree none join b (Suspend e p) n k =
    if b then join Passing (fold_tree none join (resumes p) p (n + 1) k) none else none
fold_tree none join b (Seq p q) n k =
    if b then join Exclusive (fold_tree none join (resumes p) p (n + 1) k)
    (fold_tree none join (second_resumes p q) q (n + 1 + statement_count p)
    (k + length (leaf_paths (resumes p) p (n + 1))))
    else none
fold_tree none join b (Loop at p) n k =
    if b then join Passing (fold_tree none join (resumes p) p (n + 1) k) none else none
fold_tree none join b (Par p q) n k =
    if b then join (Parallel (can_pass p) (can_pass q)) (fold_tree none join (resumes p) p (n + 1) k)
    (fold_tree none join (resumes q) q (n + 1 + statement_count p) (k + length (leaf_paths (resumes p) p (n + 1))))
    else none
fold_tree none join b (Trap p) n k =
    if b then join Passing (fold_tree none join (resumes p) p (n + 1) k) none else none
fold_tree none join b (Local s p) n k =
    if b then join Passing (fold_tree none join (resumes p) p (n + 1) k) none else none
fold_tree none join b (Awake e p) n k = none

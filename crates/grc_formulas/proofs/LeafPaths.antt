-- The leaves of a selection tree are the leaves of its body, in order.
use Rattle.std.proofs.Common.{◌≡◌, ℕ, ◌+◌, Bool, true, false, List, [], ◌∷◌, ◌++◌, length, refl, sym, ap, ◌∙◌, append_assoc}
use Rattle.std.specs.Prelude.{if◌then◌else◌}
use Rattle.est_kernel.specs.Terms.{Term, Nothing, Pause, Emit, Exit, Present, Suspend, Seq, Loop, Par, Trap, Local, Awake}
use Rattle.est_kernel.specs.Preorder.{statement_count}
use Rattle.grc_graph.specs.Layers.{can_pass}
use Rattle.grc_graph.specs.SelectionTrees.{Form, Leaf, Exclusive, Parallel, Passing, TreeNode, tree_nodes, subtree_if, leaf_paths, resumes, second_resumes}
use Rattle.grc_graph.specs.SelectionTrees.{body_tree, body_leaves}
use Rattle.grc_formulas.specs.LeafLists.{path_if_leaf, leaves_in}

pub leaves_in-append : (xs ys : List TreeNode) → leaves_in (xs ++ ys) ≡ leaves_in xs ++ leaves_in ys
leaves_in-append [] ys = refl
leaves_in-append (x ∷ xs) ys =
    ap (λ l. path_if_leaf x.form x.path ++ l) (leaves_in-append xs ys)
    ∙ sym (append_assoc (path_if_leaf x.form x.path) (leaves_in xs) (leaves_in ys))

leaves-if : (b : Bool) (n i : ℕ) (f : Form) (xs : List TreeNode) (ls : List ℕ) → leaves_in xs ≡ ls → path_if_leaf f n ≡ []
    → leaves_in (subtree_if b n i f xs) ≡ (if b then ls else [])
leaves-if true n i f xs ls e none = ap (λ l. l ++ leaves_in xs) none ∙ e
leaves-if false n i f xs ls e none = refl

leaves-two : (xs ys : List TreeNode) (ls ms : List ℕ) → leaves_in xs ≡ ls → leaves_in ys ≡ ms → leaves_in (xs ++ ys) ≡ ls ++ ms
leaves-two xs ys ls ms e f = leaves_in-append xs ys ∙ ap (λ l. l ++ leaves_in ys) e ∙ ap (λ l. ls ++ l) f

leaf-if : (b : Bool) (n i k : ℕ) → leaves_in (subtree_if b n i (Leaf k) []) ≡ (if b then n ∷ [] else [])
leaf-if true n i k = refl
leaf-if false n i k = refl

leaves-tree : (b : Bool) (t : Term) (n i k : ℕ) → leaves_in (tree_nodes b t n i k) ≡ leaf_paths b t n
leaves-tree b Nothing n i k = refl
leaves-tree b Pause n i k = leaf-if b n i k
leaves-tree b (Emit s) n i k = refl
leaves-tree b (Exit c) n i k = refl
leaves-tree b (Present e p q) n i k =
    let c = n + 1 + statement_count p in
    let xs = tree_nodes (resumes p) p (n + 1) (i + 1) k in
    let j = i + 1 + length xs in
    let m = k + length (leaf_paths (resumes p) p (n + 1)) in
    let ys = tree_nodes (resumes q) q c j m in
    let ls = leaf_paths (resumes p) p (n + 1) in
    let ms = leaf_paths (resumes q) q c in
    leaves-if b n i Exclusive (xs ++ ys) (ls ++ ms)
    (leaves-two xs ys ls ms (leaves-tree (resumes p) p (n + 1) (i + 1) k) (leaves-tree (resumes q) q c j m)) refl
leaves-tree b (Suspend e p) n i k =
    leaves-if b n i Passing (tree_nodes (resumes p) p (n + 1) (i + 1) k) (leaf_paths (resumes p) p (n + 1)) (leaves-tree (resumes p) p (n + 1) (i + 1) k) refl
leaves-tree b (Seq p q) n i k =
    let c = n + 1 + statement_count p in
    let xs = tree_nodes (resumes p) p (n + 1) (i + 1) k in
    let j = i + 1 + length xs in
    let m = k + length (leaf_paths (resumes p) p (n + 1)) in
    let ys = tree_nodes (second_resumes p q) q c j m in
    let ls = leaf_paths (resumes p) p (n + 1) in
    let ms = leaf_paths (second_resumes p q) q c in
    leaves-if b n i Exclusive (xs ++ ys) (ls ++ ms)
    (leaves-two xs ys ls ms (leaves-tree (resumes p) p (n + 1) (i + 1) k) (leaves-tree (second_resumes p q) q c j m)) refl
leaves-tree b (Loop at p) n i k =
    leaves-if b n i Passing (tree_nodes (resumes p) p (n + 1) (i + 1) k) (leaf_paths (resumes p) p (n + 1)) (leaves-tree (resumes p) p (n + 1) (i + 1) k) refl
leaves-tree b (Par p q) n i k =
    let c = n + 1 + statement_count p in
    let xs = tree_nodes (resumes p) p (n + 1) (i + 1) k in
    let j = i + 1 + length xs in
    let m = k + length (leaf_paths (resumes p) p (n + 1)) in
    let ys = tree_nodes (resumes q) q c j m in
    let ls = leaf_paths (resumes p) p (n + 1) in
    let ms = leaf_paths (resumes q) q c in
    leaves-if b n i (Parallel (can_pass p) (can_pass q)) (xs ++ ys) (ls ++ ms)
    (leaves-two xs ys ls ms (leaves-tree (resumes p) p (n + 1) (i + 1) k) (leaves-tree (resumes q) q c j m)) refl
leaves-tree b (Trap p) n i k =
    leaves-if b n i Passing (tree_nodes (resumes p) p (n + 1) (i + 1) k) (leaf_paths (resumes p) p (n + 1)) (leaves-tree (resumes p) p (n + 1) (i + 1) k) refl
leaves-tree b (Local s p) n i k =
    leaves-if b n i Passing (tree_nodes (resumes p) p (n + 1) (i + 1) k) (leaf_paths (resumes p) p (n + 1)) (leaves-tree (resumes p) p (n + 1) (i + 1) k) refl
leaves-tree b (Awake e p) n i k = refl

pub leaves-body_tree : (body : Term) → leaves_in (body_tree body) ≡ body_leaves body
leaves-body_tree body = leaves-tree (resumes body) body 0 0 0

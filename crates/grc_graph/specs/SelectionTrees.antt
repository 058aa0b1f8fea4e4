-- To believe: the selection tree of a body, and which pauses a list of truth values selects (Potop-Butucaru, Edwards
-- and Berry, "Compiling Esterel").
--
-- The tree has a node for each statement whose resumed instance is live, in preorder. A pause is a leaf, and the
-- leaves are numbered in order from 0. Of the parts of a sequence or of a test at most one holds control; those of a
-- parallel hold it together, and a branch is marked where it can be over while the other goes on. Every other
-- statement passes control through.
use Rattle.std.specs.Prelude.{ℕ, ◌+◌, Bool, false, ◌==◌, ◌&&◌, if◌then◌else◌, List, [], ◌∷◌, ◌++◌, length}
use Rattle.est_kernel.specs.Terms.{Term, Nothing, Pause, Emit, Exit, Present, Suspend, Seq, Loop, Par, Trap, Local}
use Rattle.est_kernel.specs.Terms.{Awake}
use Rattle.est_kernel.specs.Preorder.{statement_count}
use Rattle.est_kernel.specs.StaticCodes.{has_code, resumed_codes}
use Rattle.grc_graph.specs.Layers.{can_pass}

pub data Form : Type 0 where
  Leaf : (k : ℕ) → Form
  Exclusive : Form
  Parallel : (a b : Bool) → Form
  Passing : Form

-- a node: its statement, the place after its subtree in the list of nodes, and its form
pub record TreeNode : Type 0 where
  pub path : ℕ
  pub after : ℕ
  pub form : Form

-- whether a part of a statement whose resumed instance is live has a live resumed instance
abbrev pub resumes : Term → Bool
resumes p = has_code (resumed_codes p)

-- the same of the second part q of a sequence after p
abbrev pub second_resumes : Term → Term → Bool
second_resumes p q = can_pass p && resumes q

-- the paths of the leaves of a statement at n, in order; b says whether its resumed instance is live
abbrev pub leaf_paths : Bool → Term → ℕ → List ℕ
leaf_paths b Nothing n = []
leaf_paths b Pause n = if b then n ∷ [] else []
leaf_paths b (Emit s) n = []
leaf_paths b (Exit k) n = []
leaf_paths b (Present e p q) n =
    if b then leaf_paths (resumes p) p (n + 1) ++ leaf_paths (resumes q) q (n + 1 + statement_count p) else []
leaf_paths b (Suspend e p) n = if b then leaf_paths (resumes p) p (n + 1) else []
leaf_paths b (Seq p q) n =
    if b then leaf_paths (resumes p) p (n + 1) ++ leaf_paths (second_resumes p q) q (n + 1 + statement_count p) else []
leaf_paths b (Loop at p) n = if b then leaf_paths (resumes p) p (n + 1) else []
leaf_paths b (Par p q) n =
    if b then leaf_paths (resumes p) p (n + 1) ++ leaf_paths (resumes q) q (n + 1 + statement_count p) else []
leaf_paths b (Trap p) n = if b then leaf_paths (resumes p) p (n + 1) else []
leaf_paths b (Local s p) n = if b then leaf_paths (resumes p) p (n + 1) else []
leaf_paths b (Awake e p) n = []

-- a node before the nodes of its parts, where its resumed instance is live; its place is i
abbrev pub subtree_if : Bool → ℕ → ℕ → Form → List TreeNode → List TreeNode
subtree_if b n i f parts = if b then record { path = n; after = i + 1 + length parts; form = f } ∷ parts else []

-- The nodes of a statement at n, in order. Its node has the place i in the whole list, and its first leaf the
-- number k.
abbrev pub tree_nodes : Bool → Term → (n i k : ℕ) → List TreeNode
tree_nodes b Nothing n i k = []
tree_nodes b Pause n i k = subtree_if b n i (Leaf k) []
tree_nodes b (Emit s) n i k = []
tree_nodes b (Exit c) n i k = []
tree_nodes b (Present e p q) n i k =
    let first = tree_nodes (resumes p) p (n + 1) (i + 1) k in
    subtree_if b n i Exclusive (first ++ tree_nodes (resumes q) q (n + 1 + statement_count p) (i + 1 + length first)
    (k + length (leaf_paths (resumes p) p (n + 1))))
tree_nodes b (Suspend e p) n i k = subtree_if b n i Passing (tree_nodes (resumes p) p (n + 1) (i + 1) k)
tree_nodes b (Seq p q) n i k =
    let first = tree_nodes (resumes p) p (n + 1) (i + 1) k in
    subtree_if b n i Exclusive (first ++ tree_nodes (second_resumes p q) q (n + 1 + statement_count p)
    (i + 1 + length first) (k + length (leaf_paths (resumes p) p (n + 1))))
tree_nodes b (Loop at p) n i k = subtree_if b n i Passing (tree_nodes (resumes p) p (n + 1) (i + 1) k)
tree_nodes b (Par p q) n i k =
    let first = tree_nodes (resumes p) p (n + 1) (i + 1) k in
    subtree_if b n i (Parallel (can_pass p) (can_pass q)) (first ++ tree_nodes (resumes q) q (n + 1 + statement_count p)
    (i + 1 + length first) (k + length (leaf_paths (resumes p) p (n + 1))))
tree_nodes b (Trap p) n i k = subtree_if b n i Passing (tree_nodes (resumes p) p (n + 1) (i + 1) k)
tree_nodes b (Local s p) n i k = subtree_if b n i Passing (tree_nodes (resumes p) p (n + 1) (i + 1) k)
tree_nodes b (Awake e p) n i k = []

-- the leaves and the nodes of a body
abbrev pub body_leaves : Term → List ℕ
body_leaves body = leaf_paths (resumes body) body 0

abbrev pub body_tree : Term → List TreeNode
body_tree body = tree_nodes (resumes body) body 0 0 0

-- the pauses that a list of truth values selects, one value for each of these leaves
abbrev pub selecting : List ℕ → List Bool → ℕ → Bool
selecting [] bits n = false
selecting (m ∷ ms) [] n = false
selecting (m ∷ ms) (b ∷ bits) n = if n == m then b else selecting ms bits n

-- What a subtree comes to by its places is what its statement does.
use Rattle.std.proofs.Common.{◌≡◌, ℕ, ◌+◌, ◌<◌, ◌≤◌, Bool, true, false, List, [], ◌∷◌, ◌++◌, length, map, get_or, refl, sym}
use Rattle.std.proofs.Common.{ap, ◌∙◌, arith, append_assoc, length-append}
use Rattle.std.specs.Prelude.{if◌then◌else◌}
use Rattle.std.proofs.lemmas.List.{append-nil}
use Rattle.est_kernel.specs.Terms.{Term, Nothing, Pause, Emit, Exit, Present, Suspend, Seq, Loop, Par, Trap, Local, Awake}
use Rattle.est_kernel.specs.Preorder.{statement_count}
use Rattle.est_kernel.proofs.Exports.{statement_count-pos}
use Rattle.grc_graph.specs.declared.trees.SelNode.{SelNode}
use Rattle.grc_graph.specs.Layers.{can_pass}
use Rattle.grc_graph.specs.SelectionTrees.{Form, Leaf, Exclusive, Parallel, Passing, TreeNode, tree_nodes, leaf_paths, subtree_if, resumes, second_resumes}
use Rattle.grc_graph.specs.TreeForms.{form_of, tree_node, end_of, SubtreesNest}
use Rattle.grc_graph.specs.SelectionFolds.{fold_tree}
use Rattle.net_state_enc.specs.TreeWalks.{Folds, second_place}
use Rattle.net_state_enc.proofs.TreePlaces.{heads_tree, node_there, middle_of}
use Rattle.grc_graph.proofs.Exports.{tree_none}

-- where there are no nodes there is nothing
empty_if : {X : Type 0} (none : X) (b : Bool) (n i : ℕ) (f : Form) (xs : List TreeNode) (j : X) → length (subtree_if b n i f xs) ≡ 0
    → (if b then j else none) ≡ none
empty_if none true n i f xs j h = absurd (omega arith)
empty_if none false n i f xs j h = refl

fold-empty : {X : Type 0} (none : X) (join : Form → X → X → X) (b : Bool) (t : Term) (n i k : ℕ) → length (tree_nodes b t n i k) ≡ 0
    → fold_tree none join b t n k ≡ none
fold-empty none join b Nothing n i k h = refl
fold-empty none join b Pause n i k h = empty_if none b n i (Leaf k) [] _ h
fold-empty none join b (Emit s) n i k h = refl
fold-empty none join b (Exit c) n i k h = refl
fold-empty none join b (Awake e p) n i k h = refl
fold-empty none join b _ n i k h = empty_if none b n i _ _ _ h

-- A statement with nodes is a node over those of two parts; a form with fewer parts has an empty second one.
record Row {X : Type 0} (none : X) (join : Form → X → X → X) (t : Term) (n i k : ℕ) : Type 0 where
  form : Form
  first : Term
  second : Term
  live : Bool
  other : Bool
  number : ℕ
  leaf : ℕ
  nodes_two : tree_nodes true t n i k ≡ record {
    path = n;
    after = i + 1 + length (tree_nodes live first (n + 1) (i + 1) k
        ++ tree_nodes other second number (i + 1 + length (tree_nodes live first (n + 1) (i + 1) k)) leaf);
    form = form;
  } ∷ (tree_nodes live first (n + 1) (i + 1) k
      ++ tree_nodes other second number (i + 1 + length (tree_nodes live first (n + 1) (i + 1) k)) leaf)
  judged : fold_tree none join true t n k
      ≡ join form (fold_tree none join live first (n + 1) k) (fold_tree none join other second number leaf)
  later : n + 1 < number

row_one : {X : Type 0} (none : X) (join : Form → X → X → X) (t p : Term) (f : Form) (n i k : ℕ)
    → tree_nodes true t n i k ≡ subtree_if true n i f (tree_nodes (resumes p) p (n + 1) (i + 1) k)
    → fold_tree none join true t n k ≡ join f (fold_tree none join (resumes p) p (n + 1) k) none
    → Row none join t n i k
row_one none join t p f n i k e j = record {
  form = f;
  first = p;
  second = Nothing;
  live = resumes p;
  other = false;
  number = n + 2;
  leaf = 0;
  nodes_two = e ∙ ap (λ l. record { path = n; after = i + 1 + length l; form = f } ∷ l) (sym (append-nil (tree_nodes (resumes p) p (n + 1) (i + 1) k)));
  judged = j;
  later = omega arith;
}

row_two : {X : Type 0} (none : X) (join : Form → X → X → X) (t p q : Term) (other : Bool) (f : Form) (n i k : ℕ)
    → tree_nodes true t n i k ≡ subtree_if true n i f (tree_nodes (resumes p) p (n + 1) (i + 1) k
    ++ tree_nodes other q (n + 1 + statement_count p) (i + 1 + length (tree_nodes (resumes p) p (n + 1) (i + 1) k))
    (k + length (leaf_paths (resumes p) p (n + 1))))
    → fold_tree none join true t n k ≡ join f (fold_tree none join (resumes p) p (n + 1) k)
    (fold_tree none join other q (n + 1 + statement_count p) (k + length (leaf_paths (resumes p) p (n + 1))))
    → Row none join t n i k
row_two none join t p q other f n i k e j = record {
  form = f;
  first = p;
  second = q;
  live = resumes p;
  other = other;
  number = n + 1 + statement_count p;
  leaf = k + length (leaf_paths (resumes p) p (n + 1));
  nodes_two = e;
  judged = j;
  later = omega (arith, statement_count-pos p);
}

row_of : {X : Type 0} (none : X) (join : Form → X → X → X) (t : Term) (n i k : ℕ) → 0 < length (tree_nodes true t n i k) → Row none join t n i k
row_of none join Nothing n i k h = absurd (omega arith)
row_of none join Pause n i k h = record {
  form = Leaf k;
  first = Nothing;
  second = Nothing;
  live = false;
  other = false;
  number = n + 2;
  leaf = 0;
  nodes_two = refl;
  judged = refl;
  later = omega arith;
}
row_of none join (Emit s) n i k h = absurd (omega arith)
row_of none join (Exit c) n i k h = absurd (omega arith)
row_of none join (Present e p q) n i k h = row_two none join (Present e p q) p q (resumes q) Exclusive n i k refl refl
row_of none join (Suspend e p) n i k h = row_one none join (Suspend e p) p Passing n i k refl refl
row_of none join (Seq p q) n i k h = row_two none join (Seq p q) p q (second_resumes p q) Exclusive n i k refl refl
row_of none join (Loop at p) n i k h = row_one none join (Loop at p) p Passing n i k refl refl
row_of none join (Par p q) n i k h = row_two none join (Par p q) p q (resumes q) (Parallel (can_pass p) (can_pass q)) n i k refl refl
row_of none join (Trap p) n i k h = row_one none join (Trap p) p Passing n i k refl refl
row_of none join (Local s p) n i k h = row_one none join (Local s p) p Passing n i k refl refl
row_of none join (Awake e p) n i k h = absurd (omega arith)

-- what a subtree comes to, from what its parts do
pub folds-whole : {X : Type 0} (none : X) (join : Form → X → X → X) (nodes : List SelNode) (nest : SubtreesNest nodes) (i middle : ℕ) (d : SelNode) (l r : X)
    → i < length nodes
    → middle ≡ second_place nodes i d
    → Folds none join nodes (i + 1) middle l
    → Folds none join nodes middle (end_of nodes i d) r
    → Folds none join nodes i (end_of nodes i d) (join (form_of (get_or nodes i d).form) l r)
folds-whole none join nodes nest i middle d l r within mid jl jr true t n k pre post s =
    let at = s.begins in
    let some : 0 < length (tree_nodes true t n (length pre) k) = omega (arith, nest.begun i d within, s.begins, s.ends) in
    let row = row_of none join t n (length pre) k some in
    let A = tree_nodes row.live row.first (n + 1) (length pre + 1) k in
    let B = tree_nodes row.other row.second row.number (length pre + 1 + length A) row.leaf in
    let x : TreeNode = record { path = n; after = length pre + 1 + length (A ++ B); form = row.form } in
    let whole : map tree_node nodes ≡ pre ++ ((x ∷ (A ++ B)) ++ post) = s.nodes_all ∙ ap (λ v. pre ++ (v ++ post)) row.nodes_two in
    let here : tree_node (get_or nodes i d) ≡ x = node_there nodes pre (x ∷ (A ++ B)) post i 0 d whole (omega (arith, at)) (omega arith) in
    let seam : middle ≡ length pre + 1 + length A
    = mid ∙ ap (λ j. second_place nodes j d) at
    ∙ middle_of nodes nest (length pre) n row.number d pre A B post row.form whole refl
    (heads_tree row.live row.first (n + 1) (length pre + 1) k) (heads_tree row.other row.second row.number (length pre + 1 + length A) row.leaf) row.later in
    let one : length (pre ++ x ∷ []) ≡ length pre + 1 = length-append pre (x ∷ []) in
    let more : length (pre ++ x ∷ A) ≡ length pre + 1 + length A = omega (arith, length-append pre (x ∷ A)) in
    let first : l ≡ fold_tree none join row.live row.first (n + 1) k
    = jl row.live row.first (n + 1) k (pre ++ x ∷ []) (B ++ post) (record {
      nodes_all = whole ∙ ap (λ v. pre ++ (x ∷ v)) (append_assoc A B post) ∙ sym (append_assoc pre (x ∷ []) (A ++ (B ++ post)))
          ∙ ap (λ v. (pre ++ x ∷ []) ++ (tree_nodes row.live row.first (n + 1) v k ++ (B ++ post))) (sym one);
      begins = omega (arith, one, at);
      ends = seam ∙ (λ j. sym one j + length (tree_nodes row.live row.first (n + 1) (sym one j) k));
    }) in
    let second : r ≡ fold_tree none join row.other row.second row.number row.leaf
    = jr row.other row.second row.number row.leaf (pre ++ x ∷ A) post (record {
      nodes_all = whole ∙ ap (λ v. pre ++ (x ∷ v)) (append_assoc A B post) ∙ sym (append_assoc pre (x ∷ A) (B ++ post))
          ∙ ap (λ v. (pre ++ x ∷ A) ++ (tree_nodes row.other row.second row.number v row.leaf ++ post)) (sym more);
      begins = seam ∙ sym more;
      ends = ap (λ y. y.after) here ∙ ap (λ v. length pre + 1 + v) (length-append A B)
          ∙ (let q : length pre + 1 + (length A + length B) ≡ (length pre + 1 + length A) + length B = omega arith in q)
          ∙ (λ j. sym more j + length (tree_nodes row.other row.second row.number (sym more j) row.leaf));
    }) in
    (λ j. join ((here j).form) (first j) (second j)) ∙ sym row.judged
folds-whole none join nodes nest i middle d l r within mid jl jr false t n k pre post s =
    absurd (omega (arith, nest.begun i d within, s.begins, s.ends, ap length (tree_none t n (length pre) k)))

-- between equal places stands no statement with nodes
pub folds-none : {X : Type 0} (none : X) (join : Form → X → X → X) (nodes : List SelNode) (i j : ℕ) → j ≤ i → Folds none join nodes i j none
folds-none none join nodes i j h b t n k pre post s =
    sym (fold-empty none join b t n (length pre) k (omega (arith, s.begins, s.ends)))

-- from a place on, up to where a statement's nodes end
pub folds-some : {X : Type 0} (none : X) (join : Form → X → X → X) (nodes : List SelNode) (i j : ℕ) (d : SelNode) (l : X) → i < j
    → Folds none join nodes i (end_of nodes i d) l
    → Folds none join nodes i j l
folds-some none join nodes i j d l h g b t n k pre post s =
    let T = tree_nodes b t n (length pre) k in
    let here : tree_node (get_or nodes i d) ≡ get_or T 0 (tree_node d)
    = node_there nodes pre T post i 0 d s.nodes_all (omega (arith, s.begins)) (omega (arith, s.begins, s.ends)) in
    let end : end_of nodes i d ≡ length pre + length T
    = ap (λ y. y.after) here ∙ (heads_tree b t n (length pre) k).after (tree_node d) (omega (arith, s.begins, s.ends)) in
    g b t n k pre post (record { nodes_all = s.nodes_all; begins = s.begins; ends = end })

-- The list of nodes of a body's selection tree: its subtrees nest, and its leaves are numbered in order.
use Rattle.std.proofs.Common.{◌≡◌, ℕ, zero, suc, ◌+◌, ◌<◌, ◌≤◌, Bool, true, false, List, [], ◌∷◌, ◌++◌, length, map, take, get_or, fold, cond}
use Rattle.std.proofs.Common.{refl, sym, ap, ◌∙◌, subst, ⊎_elim, arith, length-append}
use Rattle.std.specs.Prelude.{IsTrue, count_by, if◌then◌else◌}
use Rattle.std.proofs.lemmas.List.{length-map, get_or_append_left, get_or-append-add}
use Rattle.std.proofs.lemmas.Bool.{cases_lt, eq-eqb}
use Rattle.std.proofs.Common.{◌-◌}
use Rattle.base_facts.proofs.Lists.{count_by-cons}
use Rattle.est_kernel.specs.Terms.{Term, Nothing, Pause, Emit, Exit, Present, Suspend, Seq, Loop, Par, Trap, Local, Awake}
use Rattle.grc_graph.specs.declared.trees.SelForm.{SelForm}
use Rattle.grc_graph.specs.declared.trees.SelForm.TheVariants as forms
use Rattle.grc_graph.specs.declared.trees.SelNode.{SelNode}
use Rattle.grc_graph.specs.SelectionTrees.{Form, Leaf, Exclusive, Parallel, Passing, TreeNode, tree_nodes, leaf_paths, subtree_if, resumes, second_resumes}
use Rattle.grc_graph.specs.SelectionTrees.{body_tree, body_leaves}
use Rattle.grc_graph.specs.TreeForms.{form_of, tree_node, is_leaf, end_of, is_numbered, leaves_before, SubtreesNest, LeavesAscend}

-- where the resumed instance is not live there are no nodes
pub tree_none : (t : Term) (n i k : ℕ) → tree_nodes false t n i k ≡ []
tree_none Nothing n i k = refl
tree_none _ n i k = refl

-- ---- subtrees nest

-- the subtrees of these nodes nest, where the first of them has the place i
record NestFrom (i : ℕ) (ns : List TreeNode) : Type 0 where
  pub begun : (j : ℕ) (d : TreeNode) → j < length ns → i + j < (get_or ns j d).after
  pub ended : (j : ℕ) (d : TreeNode) → j < length ns → (get_or ns j d).after ≤ i + length ns
  pub whole : (j k : ℕ) (d : TreeNode) → k < length ns → j < k → i + k < (get_or ns j d).after
      → (get_or ns k d).after ≤ (get_or ns j d).after

nest_nil : (i : ℕ) → NestFrom i []
nest_nil i = record {
  begun = λ j d h. absurd (omega arith);
  ended = λ j d h. absurd (omega arith);
  whole = λ j k d h. absurd (omega arith);
}

-- the node at a place of two lists together
left_node : (xs ys : List TreeNode) (j : ℕ) (d : TreeNode) → j < length xs → get_or (xs ++ ys) j d ≡ get_or xs j d
left_node xs ys j d h = get_or_append_left xs ys d j h

right_node : (xs ys : List TreeNode) (j : ℕ) (d : TreeNode) → get_or (xs ++ ys) (length xs + j) d ≡ get_or ys j d
right_node xs ys j d = get_or-append-add xs ys j d

-- what holds at each place of two lists holds of both together
by_halves : (P : ℕ → Type 0) (m n : ℕ) → ((j : ℕ) → j < m → P j) → ((j : ℕ) → j < n → P (m + j)) → (j : ℕ) → j < m + n → P j
by_halves P m n f g j h =
    ⊎_elim (λ lt. f j lt)
    (λ ge. let e : m + (j - m) ≡ j = omega arith in subst P e (g (j - m) (omega arith)))
    (cases_lt j m)

nest_append : (i : ℕ) (xs ys : List TreeNode) → NestFrom i xs → NestFrom (i + length xs) ys → NestFrom i (xs ++ ys)
nest_append i xs ys h g =
    let total : length (xs ++ ys) ≡ length xs + length ys = length-append xs ys in
    record {
      begun = λ j d l. by_halves (λ j. i + j < (get_or (xs ++ ys) j d).after) (length xs) (length ys)
          (λ j l. rw (left_node xs ys j d l) (h.begun j d l))
          (λ j l. rw (right_node xs ys j d) (omega (arith, g.begun j d l))) j (omega arith);
      ended = λ j d l. by_halves (λ j. (get_or (xs ++ ys) j d).after ≤ i + length (xs ++ ys)) (length xs) (length ys)
          (λ j l. rw (left_node xs ys j d l) (omega (arith, h.ended j d l, total)))
          (λ j l. rw (right_node xs ys j d) (omega (arith, g.ended j d l, total))) j (omega arith);
      whole = λ j k d l. by_halves
          (λ k. j < k → i + k < (get_or (xs ++ ys) j d).after → (get_or (xs ++ ys) k d).after ≤ (get_or (xs ++ ys) j d).after)
          (length xs) (length ys)
          (λ k l b. let m : j < length xs = omega arith in
          rw (left_node xs ys j d m, left_node xs ys k d l) (h.whole j k d l b))
          (λ k l b. by_halves
          (λ j. j < length xs + k → i + (length xs + k) < (get_or (xs ++ ys) j d).after
          → (get_or (xs ++ ys) (length xs + k) d).after ≤ (get_or (xs ++ ys) j d).after)
          (length xs) (length ys)
          (λ j m b. rw (left_node xs ys j d m) (λ e. absurd (omega (arith, h.ended j d m))))
          (λ j m b. rw (right_node xs ys j d, right_node xs ys k d)
          (λ e. g.whole j k d l (omega arith) (omega arith)))
          j (omega arith) b)
          k (omega arith);
    }

nest_node : (n i : ℕ) (f : Form) (xs : List TreeNode) → NestFrom (i + 1) xs
    → NestFrom i (record { path = n; after = i + 1 + length xs; form = f } ∷ xs)
nest_node n i f xs h =
    let x : TreeNode = record { path = n; after = i + 1 + length xs; form = f } in
    let later = λ (j : ℕ) (d : TreeNode). right_node (x ∷ []) xs j d in
    record {
      begun = λ j d l. by_halves (λ j. i + j < (get_or (x ∷ xs) j d).after) 1 (length xs)
          (λ j l. let e : j ≡ 0 = omega arith in rw e (let r : i + 0 < i + 1 + length xs = omega arith in r))
          (λ j l. subst (λ y. i + (1 + j) < y.after) (sym (later j d)) (omega (arith, h.begun j d l))) j (omega arith);
      ended = λ j d l. by_halves (λ j. (get_or (x ∷ xs) j d).after ≤ i + length (x ∷ xs)) 1 (length xs)
          (λ j l. let e : j ≡ 0 = omega arith in rw e (let r : i + 1 + length xs ≤ i + length (x ∷ xs) = omega arith in r))
          (λ j l. subst (λ y. y.after ≤ i + length (x ∷ xs)) (sym (later j d)) (omega (arith, h.ended j d l))) j (omega arith);
      whole = λ j k d l. by_halves
          (λ k. j < k → i + k < (get_or (x ∷ xs) j d).after → (get_or (x ∷ xs) k d).after ≤ (get_or (x ∷ xs) j d).after)
          1 (length xs)
          (λ k l b. absurd (omega arith))
          (λ k l b. by_halves
          (λ j. j < 1 + k → i + (1 + k) < (get_or (x ∷ xs) j d).after → (get_or (x ∷ xs) (1 + k) d).after ≤ (get_or (x ∷ xs) j d).after)
          1 (length xs)
          (λ j m b. let e : j ≡ 0 = omega arith in
          rw e (λ u. subst (λ y. y.after ≤ i + 1 + length xs) (sym (later k d)) (h.ended k d l)))
          (λ j m b u. subst (λ y. y.after ≤ (get_or (x ∷ xs) (1 + j) d).after) (sym (later k d))
          (subst (λ y. (get_or xs k d).after ≤ y.after) (sym (later j d))
          (h.whole j k d l (omega arith) (let v = subst (λ y. i + (1 + k) < y.after) (later j d) u in omega arith))))
          j (omega arith) b)
          k (omega arith);
    }

nest_if : (b : Bool) (n i : ℕ) (f : Form) (xs : List TreeNode) → NestFrom (i + 1) xs → NestFrom i (subtree_if b n i f xs)
nest_if true n i f xs h = nest_node n i f xs h
nest_if false n i f xs h = nest_nil i

nest_tree : (b : Bool) (t : Term) (n i k : ℕ) → NestFrom i (tree_nodes b t n i k)
nest_tree b Pause n i k = nest_if b n i _ [] (nest_nil (i + 1))
nest_tree b (Present e p q) n i k =
    nest_if b n i _ _ (nest_append (i + 1) _ _ (nest_tree (resumes p) p (n + 1) (i + 1) k) (nest_tree (resumes q) q _ _ _))
nest_tree b (Suspend e p) n i k = nest_if b n i _ _ (nest_tree (resumes p) p (n + 1) (i + 1) k)
nest_tree b (Seq p q) n i k =
    nest_if b n i _ _ (nest_append (i + 1) _ _ (nest_tree (resumes p) p (n + 1) (i + 1) k) (nest_tree (second_resumes p q) q _ _ _))
nest_tree b (Loop at p) n i k = nest_if b n i _ _ (nest_tree (resumes p) p (n + 1) (i + 1) k)
nest_tree b (Par p q) n i k =
    nest_if b n i _ _ (nest_append (i + 1) _ _ (nest_tree (resumes p) p (n + 1) (i + 1) k) (nest_tree (resumes q) q _ _ _))
nest_tree b (Trap p) n i k = nest_if b n i _ _ (nest_tree (resumes p) p (n + 1) (i + 1) k)
nest_tree b (Local s p) n i k = nest_if b n i _ _ (nest_tree (resumes p) p (n + 1) (i + 1) k)
nest_tree b _ n i k = nest_nil i

-- the node at a place, by its plain form
node_at : (nodes : List SelNode) (i : ℕ) (d : SelNode) → i < length nodes → get_or (map tree_node nodes) i (tree_node d) ≡ tree_node (get_or nodes i d)
node_at (x ∷ xs) zero d h = refl
node_at (x ∷ xs) (suc i) d h = node_at xs i d (omega arith)
node_at [] i d h = absurd (omega arith)

after_at : (nodes : List SelNode) (i : ℕ) (d : SelNode) → i < length nodes → (get_or (map tree_node nodes) i (tree_node d)).after ≡ end_of nodes i d
after_at nodes i d h = ap (λ x. x.after) (node_at nodes i d h)

nest_nodes : (nodes : List SelNode) → NestFrom 0 (map tree_node nodes) → SubtreesNest nodes
nest_nodes nodes h =
    let counts : length (map tree_node nodes) ≡ length nodes = length-map nodes tree_node in
    record {
      begun = λ i d l. let e = after_at nodes i d l in let k = h.begun i (tree_node d) (omega arith) in omega (arith, e, k);
      ended = λ i d l. let e = after_at nodes i d l in let k = h.ended i (tree_node d) (omega arith) in omega (arith, e, k);
      whole = λ i j d l b m.
          let first = after_at nodes i d (omega arith) in
          let other = after_at nodes j d l in
          let k = h.whole i j (tree_node d) (omega arith) b (omega (arith, first)) in
          omega (arith, first, other, k);
    }

-- ---- leaves are numbered in order

abbrev leaf_in : Form → ℕ
leaf_in (Leaf k) = 1
leaf_in _ = 0

abbrev leaf_count : List TreeNode → ℕ
leaf_count [] = 0
leaf_count (x ∷ xs) = leaf_in x.form + leaf_count xs

leaf_count-append : (xs ys : List TreeNode) → leaf_count (xs ++ ys) ≡ leaf_count xs + leaf_count ys
leaf_count-append [] ys = omega arith
leaf_count-append (x ∷ xs) ys = omega (arith, leaf_count-append xs ys)

-- a leaf has this number; other nodes have none
abbrev HasNumber : Form → ℕ → Type 0
HasNumber (Leaf m) k = m ≡ k
HasNumber _ k = Unit {0}

-- the leaves have the numbers from k on
abbrev NumberedFrom : ℕ → List TreeNode → Type 0
NumberedFrom k [] = Unit {0}
NumberedFrom k (x ∷ xs) = HasNumber x.form k × NumberedFrom (k + leaf_in x.form) xs

numbered_append : (k m : ℕ) (xs ys : List TreeNode) → k + leaf_count xs ≡ m → NumberedFrom k xs → NumberedFrom m ys → NumberedFrom k (xs ++ ys)
numbered_append k m [] ys e h g = let f : k ≡ m = omega (arith, e) in rw f g
numbered_append k m (x ∷ xs) ys e h g =
    (h.0, numbered_append (k + leaf_in x.form) m xs ys (omega (arith, e)) h.1 g)

leaves_of_two : (xs ys : List TreeNode) (us vs : List ℕ) → leaf_count xs ≡ length us → leaf_count ys ≡ length vs → leaf_count (xs ++ ys) ≡ length (us ++ vs)
leaves_of_two xs ys us vs h g = omega (arith, h, g, leaf_count-append xs ys, length-append us vs)

leaves_if : (b : Bool) (n i : ℕ) (f : Form) (xs : List TreeNode) (us : List ℕ) → leaf_in f ≡ 0 → leaf_count xs ≡ length us
    → leaf_count (subtree_if b n i f xs) ≡ length (if b then us else [])
leaves_if true n i f xs us e h = omega (arith, e, h)
leaves_if false n i f xs us e h = refl

leaf_count-tree : (b : Bool) (t : Term) (n i k : ℕ) → leaf_count (tree_nodes b t n i k) ≡ length (leaf_paths b t n)
leaf_count-tree b Nothing n i k = refl
leaf_count-tree true Pause n i k = refl
leaf_count-tree false Pause n i k = refl
leaf_count-tree b (Emit s) n i k = refl
leaf_count-tree b (Exit c) n i k = refl
leaf_count-tree b (Present e p q) n i k =
    leaves_if b n i Exclusive _ _ refl (leaves_of_two _ _ _ _ (leaf_count-tree (resumes p) p (n + 1) (i + 1) k) (leaf_count-tree (resumes q) q _ _ _))
leaf_count-tree b (Suspend e p) n i k = leaves_if b n i Passing _ _ refl (leaf_count-tree (resumes p) p (n + 1) (i + 1) k)
leaf_count-tree b (Seq p q) n i k =
    leaves_if b n i Exclusive _ _ refl (leaves_of_two _ _ _ _ (leaf_count-tree (resumes p) p (n + 1) (i + 1) k) (leaf_count-tree (second_resumes p q) q _ _ _))
leaf_count-tree b (Loop at p) n i k = leaves_if b n i Passing _ _ refl (leaf_count-tree (resumes p) p (n + 1) (i + 1) k)
leaf_count-tree b (Par p q) n i k =
    leaves_if b n i _ _ _ refl (leaves_of_two _ _ _ _ (leaf_count-tree (resumes p) p (n + 1) (i + 1) k) (leaf_count-tree (resumes q) q _ _ _))
leaf_count-tree b (Trap p) n i k = leaves_if b n i Passing _ _ refl (leaf_count-tree (resumes p) p (n + 1) (i + 1) k)
leaf_count-tree b (Local s p) n i k = leaves_if b n i Passing _ _ refl (leaf_count-tree (resumes p) p (n + 1) (i + 1) k)
leaf_count-tree b (Awake e p) n i k = refl

numbered_if : (b : Bool) (n i k : ℕ) (f : Form) (xs : List TreeNode) → HasNumber f k → leaf_in f ≡ 0 → NumberedFrom k xs →
    NumberedFrom k (subtree_if b n i f xs)
numbered_if true n i k f xs h e g = (h, subst (λ m. NumberedFrom m xs) (let r : k ≡ k + leaf_in f = omega (arith, e) in r) g)
numbered_if false n i k f xs h e g = tt

numbered_tree : (b : Bool) (t : Term) (n i k : ℕ) → NumberedFrom k (tree_nodes b t n i k)
numbered_tree b Nothing n i k = tt
numbered_tree true Pause n i k = (refl, tt)
numbered_tree false Pause n i k = tt
numbered_tree b (Emit s) n i k = tt
numbered_tree b (Exit c) n i k = tt
numbered_tree b (Present e p q) n i k =
    numbered_if b n i k Exclusive _ tt refl (numbered_append k _ _ _ (ap (λ l. k + l) (leaf_count-tree (resumes p) p (n + 1) (i + 1) k))
    (numbered_tree (resumes p) p (n + 1) (i + 1) k) (numbered_tree (resumes q) q _ _ _))
numbered_tree b (Suspend e p) n i k = numbered_if b n i k Passing _ tt refl (numbered_tree (resumes p) p (n + 1) (i + 1) k)
numbered_tree b (Seq p q) n i k =
    numbered_if b n i k Exclusive _ tt refl (numbered_append k _ _ _ (ap (λ l. k + l) (leaf_count-tree (resumes p) p (n + 1) (i + 1) k))
    (numbered_tree (resumes p) p (n + 1) (i + 1) k) (numbered_tree (second_resumes p q) q _ _ _))
numbered_tree b (Loop at p) n i k = numbered_if b n i k Passing _ tt refl (numbered_tree (resumes p) p (n + 1) (i + 1) k)
numbered_tree b (Par p q) n i k =
    numbered_if b n i k (Parallel _ _) _ tt refl (numbered_append k _ _ _ (ap (λ l. k + l) (leaf_count-tree (resumes p) p (n + 1) (i + 1) k))
    (numbered_tree (resumes p) p (n + 1) (i + 1) k) (numbered_tree (resumes q) q _ _ _))
numbered_tree b (Trap p) n i k = numbered_if b n i k Passing _ tt refl (numbered_tree (resumes p) p (n + 1) (i + 1) k)
numbered_tree b (Local s p) n i k = numbered_if b n i k Passing _ tt refl (numbered_tree (resumes p) p (n + 1) (i + 1) k)
numbered_tree b (Awake e p) n i k = tt

-- ---- the same of the nodes themselves

-- a count, begun at another number
count_from : {X : Type 0} (p : X → Bool) (n : ℕ) (xs : List X) → fold (λ a x. a + cond (p x) 1 0) n xs ≡ n + count_by p xs
count_from p n [] = omega arith
count_from p n (x ∷ xs) =
    count_from p (n + cond (p x) 1 0) xs
    ∙ (let e : n + cond (p x) 1 0 + count_by p xs ≡ n + (0 + cond (p x) 1 0 + count_by p xs) = omega arith in e)
    ∙ ap (λ m. n + m) (sym (count_from p (0 + cond (p x) 1 0) xs))

counts_leaf : (f : SelForm) → (if is_leaf f then 1 else 0) ≡ leaf_in (form_of f)
counts_leaf (forms.Leaf k) = refl
counts_leaf forms.Excl = refl
counts_leaf (forms.Par a b) = refl
counts_leaf forms.Pass = refl

number_test : (f : SelForm) (k : ℕ) → HasNumber (form_of f) k → IsTrue (is_numbered f k)
number_test (forms.Leaf m) k h = eq-eqb m k h
number_test forms.Excl k h = refl
number_test (forms.Par a b) k h = refl
number_test forms.Pass k h = refl

counts_leaves : (nodes : List SelNode) → count_by (λ x. is_leaf x.form) nodes ≡ leaf_count (map tree_node nodes)
counts_leaves [] = refl
counts_leaves (x ∷ xs) =
    count_by-cons (λ x. is_leaf x.form) x xs ∙ λ i. counts_leaf x.form i + counts_leaves xs i

numbers_nodes : (nodes : List SelNode) (k i : ℕ) (d : SelNode) → NumberedFrom k (map tree_node nodes) → i < length nodes
    → IsTrue (is_numbered (get_or nodes i d).form (k + leaves_before nodes i))
numbers_nodes [] k i d h l = absurd (omega arith)
numbers_nodes (x ∷ xs) k zero d h l = number_test x.form (k + 0) (let e : k ≡ k + 0 = omega arith in subst (λ m. HasNumber (form_of x.form) m) e h.0)
numbers_nodes (x ∷ xs) k (suc i) d h l =
    let e : (k + leaf_in (form_of x.form)) + leaves_before xs i ≡ k + leaves_before (x ∷ xs) (suc i)
    = (let u : (k + leaf_in (form_of x.form)) + leaves_before xs i ≡ k + (leaf_in (form_of x.form) + leaves_before xs i) = omega arith in u)
    ∙ (λ j. k + (sym (counts_leaf x.form) j + leaves_before xs i))
    ∙ ap (λ m. k + m) (sym (count_by-cons (λ x. is_leaf x.form) x (take i xs))) in
    subst (λ m. IsTrue (is_numbered (get_or xs i d).form m)) e (numbers_nodes xs (k + leaf_in (form_of x.form)) i d h.1 (omega arith))

-- a list of nodes that is a body's tree keeps what a selection tree keeps
pub tree_nests : (nodes : List SelNode) (body : Term) → map tree_node nodes ≡ body_tree body → SubtreesNest nodes
tree_nests nodes body e = nest_nodes nodes (subst (λ l. NestFrom 0 l) (sym e) (nest_tree (resumes body) body 0 0 0))

pub tree_numbers : (nodes : List SelNode) (leaves : ℕ) (body : Term) → map tree_node nodes ≡ body_tree body → leaves ≡ length (body_leaves body) →
    LeavesAscend nodes leaves
tree_numbers nodes leaves body e l = record {
  numbered = λ i d h. subst (λ m. IsTrue (is_numbered (get_or nodes i d).form m)) (let z : 0 + leaves_before nodes i ≡ leaves_before nodes i = omega arith in z)
      (numbers_nodes nodes 0 i d (subst (λ l. NumberedFrom 0 l) (sym e) (numbered_tree (resumes body) body 0 0 0)) h);
  counted = l ∙ sym (leaf_count-tree (resumes body) body 0 0 0) ∙ ap leaf_count (sym e) ∙ sym (counts_leaves nodes);
}

-- How the nodes of a statement stand behind its own, and how many they are.
use Rattle.std.proofs.Common.{◌≡◌, ℕ, ◌+◌, ◌≤◌, Bool, true, false, ◌&&◌, List, [], ◌∷◌, ◌++◌, length, map, refl, sym, ap, ◌∙◌, subst, arith, append_assoc}
use Rattle.std.proofs.Common.{length-append}
use Rattle.std.proofs.Common.{◌<◌}
use Rattle.std.specs.Prelude.{if◌then◌else◌}
use Rattle.std.proofs.lemmas.Bool.{false≢true}
use Rattle.std.proofs.Math.ListN.{set}
use Rattle.std.proofs.lemmas.List.{length-map, append-nil}
use Rattle.base_facts.proofs.Lists.{map-set-append}
use Rattle.est_kernel.specs.Terms.{Expression, Tick, Term, Nothing, Pause, Emit, Exit, Present, Suspend, Seq, Loop, Par, Trap, Local, Awake}
use Rattle.est_kernel.specs.Preorder.{statement_count}
use Rattle.est_kernel.specs.declared.code_lists.Codes.{Codes}
use Rattle.grc_graph.specs.CodeTables.{CodesFrom}
use Rattle.grc_graph.specs.declared.trees.SelForm.{SelForm}
use Rattle.grc_graph.specs.declared.trees.SelNode.{SelNode}
use Rattle.grc_graph.specs.SelectionTrees.{Form, TreeNode, tree_nodes, leaf_paths, subtree_if, resumes, second_resumes}
use Rattle.grc_graph.specs.TreeForms.{form_of, tree_node}
use Rattle.grc_graph.proofs.Exports.{tree_none, leaves_none}
use Rattle.grc_layout.specs.declared.nodes.TreeDraft.{TreeDraft}
use Rattle.grc_layout.specs.declared.nodes.Part.{Part}
use Rattle.grc_layout.specs.Growing.{node, opened, closed, Grows}

-- ---- how many there are

if_at_most : {A : Type 0} (b : Bool) (xs : List A) (m : ℕ) → length xs ≤ m → length (if b then xs else []) ≤ m
if_at_most true xs m h = h
if_at_most false xs m h = omega arith

subtree_at_most : (b : Bool) (n i : ℕ) (f : Form) (xs : List TreeNode) (m : ℕ) → length xs ≤ m → length (subtree_if b n i f xs) ≤ 1 + m
subtree_at_most b n i f xs m h = if_at_most b (record { path = n; after = i + 1 + length xs; form = f } ∷ xs) (1 + m) (omega arith)

two_at_most : {A : Type 0} (xs ys : List A) (k m : ℕ) → length xs ≤ k → length ys ≤ m → length (xs ++ ys) ≤ k + m
two_at_most xs ys k m h g = omega (arith, length-append xs ys)

both_parts : (b : Bool) (n i : ℕ) (f : Form) (xs ys : List TreeNode) (k m : ℕ) → length xs ≤ k → length ys ≤ m →
    length (subtree_if b n i f (xs ++ ys)) ≤ 1 + k + m
both_parts b n i f xs ys k m h g =
    let l = subtree_at_most b n i f (xs ++ ys) (k + m) (two_at_most xs ys k m h g) in
    omega (arith, l)

length-tree_nodes : (b : Bool) (t : Term) (n i k : ℕ) → length (tree_nodes b t n i k) ≤ statement_count t
length-tree_nodes b Nothing n i k = omega arith
length-tree_nodes b Pause n i k = subtree_at_most b n i _ [] 0 (omega arith)
length-tree_nodes b (Emit s) n i k = omega arith
length-tree_nodes b (Exit c) n i k = omega arith
length-tree_nodes b (Present e p q) n i k =
    both_parts b n i _ _ _ _ _ (length-tree_nodes (resumes p) p (n + 1) (i + 1) k) (length-tree_nodes (resumes q) q _ _ _)
length-tree_nodes b (Suspend e p) n i k = subtree_at_most b n i _ _ _ (length-tree_nodes (resumes p) p (n + 1) (i + 1) k)
length-tree_nodes b (Seq p q) n i k =
    both_parts b n i _ _ _ _ _ (length-tree_nodes (resumes p) p (n + 1) (i + 1) k) (length-tree_nodes (second_resumes p q) q _ _ _)
length-tree_nodes b (Loop at p) n i k = subtree_at_most b n i _ _ _ (length-tree_nodes (resumes p) p (n + 1) (i + 1) k)
length-tree_nodes b (Par p q) n i k =
    both_parts b n i _ _ _ _ _ (length-tree_nodes (resumes p) p (n + 1) (i + 1) k) (length-tree_nodes (resumes q) q _ _ _)
length-tree_nodes b (Trap p) n i k = subtree_at_most b n i _ _ _ (length-tree_nodes (resumes p) p (n + 1) (i + 1) k)
length-tree_nodes b (Local s p) n i k = subtree_at_most b n i _ _ _ (length-tree_nodes (resumes p) p (n + 1) (i + 1) k)
length-tree_nodes b (Awake e p) n i k = omega arith

more : (a b : ℕ) → a ≤ b → a ≤ 1 + b
more a b h = omega arith

pub length-leaf_paths : (b : Bool) (t : Term) (n : ℕ) → length (leaf_paths b t n) ≤ statement_count t
length-leaf_paths b Nothing n = omega arith
length-leaf_paths b Pause n = if_at_most b (n ∷ []) 1 (omega arith)
length-leaf_paths b (Emit s) n = omega arith
length-leaf_paths b (Exit c) n = omega arith
length-leaf_paths b (Present e p q) n =
    if_at_most b _ _ (omega (
      arith,
      two_at_most _ _ _ _ (length-leaf_paths (resumes p) p (n + 1))
          (length-leaf_paths (resumes q) q (n + 1 + statement_count p)),
    ))
length-leaf_paths b (Suspend e p) n = if_at_most b _ _ (more _ _ (length-leaf_paths (resumes p) p (n + 1)))
length-leaf_paths b (Seq p q) n =
    if_at_most b _ _ (omega (
      arith,
      two_at_most _ _ _ _ (length-leaf_paths (resumes p) p (n + 1))
          (length-leaf_paths (second_resumes p q) q (n + 1 + statement_count p)),
    ))
length-leaf_paths b (Loop at p) n = if_at_most b _ _ (more _ _ (length-leaf_paths (resumes p) p (n + 1)))
length-leaf_paths b (Par p q) n =
    if_at_most b _ _ (omega (
      arith,
      two_at_most _ _ _ _ (length-leaf_paths (resumes p) p (n + 1))
          (length-leaf_paths (resumes q) q (n + 1 + statement_count p)),
    ))
length-leaf_paths b (Trap p) n = if_at_most b _ _ (more _ _ (length-leaf_paths (resumes p) p (n + 1)))
length-leaf_paths b (Local s p) n = if_at_most b _ _ (more _ _ (length-leaf_paths (resumes p) p (n + 1)))
length-leaf_paths b (Awake e p) n = omega arith

pub length-grown : (old new : TreeDraft) (b : Bool) (t : Term) (n : ℕ) → Grows old new b t n →
    length new.nodes.items ≡ length old.nodes.items + length (tree_nodes b t n (length old.nodes.items) old.leaves)
length-grown old new b t n g =
    omega (
      arith,
      ap length g.nodes,
      length-map new.nodes.items tree_node,
      length-map old.nodes.items tree_node,
      length-append (map tree_node old.nodes.items) (tree_nodes b t n (length old.nodes.items) old.leaves),
    )

pub nodes_at_most : (old new : TreeDraft) (b : Bool) (t : Term) (n : ℕ) → Grows old new b t n
    → length new.nodes.items ≤ length old.nodes.items + statement_count t
nodes_at_most old new b t n g = omega (arith, length-grown old new b t n g, length-tree_nodes b t n (length old.nodes.items) old.leaves)

pub nodes_kept : (old new : TreeDraft) (b : Bool) (t : Term) (n : ℕ) → Grows old new b t n → length old.nodes.items ≤ length new.nodes.items
nodes_kept old new b t n g = omega (arith, length-grown old new b t n g)

pub leaves_at_most : (old new : TreeDraft) (b : Bool) (t : Term) (n : ℕ) → Grows old new b t n → new.leaves ≤ old.leaves + statement_count t
leaves_at_most old new b t n g = omega (arith, g.leaves, length-leaf_paths b t n)

pub length-opened : (old : List SelNode) (part : Part) (form : SelForm) → length (old ++ opened part form) ≤ length old + 1
length-opened old part form =
    omega (arith, length-append old (opened part form), if_at_most part.live (node part.path form 0 ∷ []) 1 (omega arith))

open_live : (old : List SelNode) (b : Bool) (n : ℕ) (form : SelForm) → b ≡ true → length old < length (old ++ opened (record { path = n; live = b }) form)
open_live old true n form h = omega (arith, length-append old (node n form 0 ∷ []))
open_live old false n form h = absurd (false≢true h)

-- the place of an open node is in the list
pub open_within : (old : List SelNode) (part : Part) (form : SelForm) → part.live ≡ true → length old < length (old ++ opened part form)
open_within old part form h = open_live old part.live part.path form h

-- ---- a node before those of its parts

-- the nodes that were appended between two states of the list
pub record Between (old new : TreeDraft) (more : List TreeNode) (leaves : ℕ) : Type 0 where
  pub nodes : map tree_node new.nodes.items ≡ map tree_node old.nodes.items ++ more
  pub leaves_more : new.leaves ≡ old.leaves + leaves

length-between : (old new : TreeDraft) (more : List TreeNode) (l : ℕ) → Between old new more l → length new.nodes.items ≡ length old.nodes.items + length more
length-between old new more l g =
    omega (
      arith,
      ap length g.nodes,
      length-map new.nodes.items tree_node,
      length-map old.nodes.items tree_node,
      length-append (map tree_node old.nodes.items) more,
    )

-- a statement whose parts have these nodes, which stand behind its own where it has one
pub closed_over : (old o part new : TreeDraft) (b : Bool) (i n : ℕ) (form0 form : SelForm) (more : List TreeNode) (l : ℕ)
    → i ≡ length old.nodes.items
    → o.nodes.items ≡ old.nodes.items ++ opened (record { path = n; live = b }) form0
    → o.leaves ≡ old.leaves
    → Between o part (if b then more else []) (if b then l else 0)
    → new.nodes.items ≡ closed part.nodes.items i (record { path = n; live = b }) form
    → new.leaves ≡ part.leaves
    → Between old new (subtree_if b n (length old.nodes.items) (form_of form) more) (if b then l else 0)
closed_over old o part new true i n form0 form more l at opn lv g cl lw =
    let counts : length part.nodes.items ≡ length old.nodes.items + 1 + length more
    = omega (arith, length-between o part more l g, ap length opn, length-append old.nodes.items (node n form0 0 ∷ [])) in
    record {
      nodes =
          ap (λ v. map tree_node v) (cl ∙ λ j. set part.nodes.items (at j) (node n form (counts j)))
          ∙ map-set-append tree_node old.nodes.items part.nodes.items (node n form0 0) (node n form (length old.nodes.items + 1 + length more)) more
          (g.nodes ∙ ap (λ v. map tree_node v ++ more) opn);
      leaves_more = lw ∙ g.leaves_more ∙ ap (λ x. x + l) lv;
    }
closed_over old o part new false i n form0 form more l at opn lv g cl lw = record {
  nodes = ap (λ v. map tree_node v) cl ∙ g.nodes ∙ ap (λ v. map tree_node v ++ []) (opn ∙ append-nil old.nodes.items);
  leaves_more = lw ∙ g.leaves_more ∙ ap (λ x. x + 0) lv;
}

-- one part, which is live where the whole is and it resumes
pub part_between : (o part : TreeDraft) (b r live : Bool) (p : Term) (n i k : ℕ)
    → live ≡ (b && r)
    → (b ≡ true → i ≡ length o.nodes.items)
    → (b ≡ true → k ≡ o.leaves)
    → Grows o part live p n
    → Between o part (if b then tree_nodes r p n i k else []) (if b then length (leaf_paths r p n) else 0)
part_between o part true r live p n i k e hi hk g =
    let h : Grows o part r p n = subst (λ v. Grows o part v p n) e g in
    record {
      nodes = h.nodes ∙ λ j. map tree_node o.nodes.items ++ tree_nodes r p n (sym (hi refl) j) (sym (hk refl) j);
      leaves_more = h.leaves;
    }
part_between o part false r live p n i k e hi hk g =
    let h : Grows o part false p n = subst (λ v. Grows o part v p n) e g in
    record {
      nodes = h.nodes ∙ ap (λ l. map tree_node o.nodes.items ++ l) (tree_none p n (length o.nodes.items) o.leaves);
      leaves_more = h.leaves ∙ ap (λ l. o.leaves + length l) (leaves_none p n);
    }

-- two parts, one behind the other
pub between_two : (o mid part : TreeDraft) (b : Bool) (xs ys : List TreeNode) (k l : ℕ)
    → Between o mid (if b then xs else []) (if b then k else 0)
    → Between mid part (if b then ys else []) (if b then l else 0)
    → Between o part (if b then xs ++ ys else []) (if b then k + l else 0)
between_two o mid part true xs ys k l g h = record {
  nodes = h.nodes ∙ ap (λ v. v ++ ys) g.nodes ∙ append_assoc (map tree_node o.nodes.items) xs ys;
  leaves_more = omega (arith, h.leaves_more, g.leaves_more);
}
between_two o mid part false xs ys k l g h = record {
  nodes = h.nodes ∙ ap (λ v. v ++ []) g.nodes ∙ append-nil _;
  leaves_more = omega (arith, h.leaves_more, g.leaves_more);
}

length-if : {A : Type 0} (b : Bool) (xs : List A) → length (if b then xs else []) ≡ (if b then length xs else 0)
length-if true xs = refl
length-if false xs = refl

-- the place behind an open node
next_place : (old o : TreeDraft) (b : Bool) (n : ℕ) (form0 : SelForm)
    → o.nodes.items ≡ old.nodes.items ++ opened (record { path = n; live = b }) form0
    → b ≡ true
    → length old.nodes.items + 1 ≡ length o.nodes.items
next_place old o true n form0 opn h = omega (arith, ap length opn, length-append old.nodes.items (node n form0 0 ∷ []))
next_place old o false n form0 opn h = absurd (false≢true h)

-- a statement over one part
pub one_over : (old o part new : TreeDraft) (t : Term) (b r live : Bool) (i n : ℕ) (form0 form : SelForm) (p : Term)
    → i ≡ length old.nodes.items
    → o.nodes.items ≡ old.nodes.items ++ opened (record { path = n; live = b }) form0
    → o.leaves ≡ old.leaves
    → live ≡ (b && r)
    → Grows o part live p (n + 1)
    → new.nodes.items ≡ closed part.nodes.items i (record { path = n; live = b }) form
    → new.leaves ≡ part.leaves
    → tree_nodes b t n (length old.nodes.items) old.leaves
    ≡ subtree_if b n (length old.nodes.items) (form_of form) (tree_nodes r p (n + 1) (length old.nodes.items + 1) old.leaves)
    → leaf_paths b t n ≡ (if b then leaf_paths r p (n + 1) else [])
    → Grows old new b t n
one_over old o part new t b r live i n form0 form p at opn lv e g cl lw tn lp =
    let whole = closed_over old o part new b i n form0 form _ _ at opn lv
    (part_between o part b r live p (n + 1) (length old.nodes.items + 1) old.leaves e (next_place old o b n form0 opn) (λ h. sym lv) g) cl lw in
    record {
      nodes = whole.nodes ∙ ap (λ l. map tree_node old.nodes.items ++ l) (sym tn);
      leaves = whole.leaves_more ∙ ap (λ l. old.leaves + l) (sym (length-if b (leaf_paths r p (n + 1))) ∙ ap length (sym lp));
    }

-- the place and the number behind the first part
second_at : (o mid : TreeDraft) (b : Bool) (xs : List TreeNode) (k i : ℕ)
    → Between o mid (if b then xs else []) (if b then k else 0)
    → (b ≡ true → i ≡ length o.nodes.items)
    → b ≡ true
    → (i + length xs ≡ length mid.nodes.items) × (o.leaves + k ≡ mid.leaves)
second_at o mid true xs k i g hi h = (omega (arith, length-between o mid xs k g, hi refl), sym g.leaves_more)
second_at o mid false xs k i g hi h = absurd (false≢true h)

-- a statement over two parts
pub two_over : (old o mid part new : TreeDraft) (t : Term) (b r s live other : Bool) (i n m : ℕ) (form0 form : SelForm) (p q : Term)
    → i ≡ length old.nodes.items
    → o.nodes.items ≡ old.nodes.items ++ opened (record { path = n; live = b }) form0
    → o.leaves ≡ old.leaves
    → live ≡ (b && r)
    → Grows o mid live p (n + 1)
    → other ≡ (b && s)
    → Grows mid part other q m
    → new.nodes.items ≡ closed part.nodes.items i (record { path = n; live = b }) form
    → new.leaves ≡ part.leaves
    → tree_nodes b t n (length old.nodes.items) old.leaves
    ≡ subtree_if b n (length old.nodes.items) (form_of form)
    (tree_nodes r p (n + 1) (length old.nodes.items + 1) old.leaves
    ++ tree_nodes s q m (length old.nodes.items + 1 + length (tree_nodes r p (n + 1) (length old.nodes.items + 1) old.leaves))
    (old.leaves + length (leaf_paths r p (n + 1))))
    → leaf_paths b t n ≡ (if b then leaf_paths r p (n + 1) ++ leaf_paths s q m else [])
    → Grows old new b t n
two_over old o mid part new t b r s live other i n m form0 form p q at opn lv e g f h cl lw tn lp =
    let first = part_between o mid b r live p (n + 1) (length old.nodes.items + 1) old.leaves e (next_place old o b n form0 opn) (λ y. sym lv) g in
    let behind = second_at o mid b _ _ (length old.nodes.items + 1) first (next_place old o b n form0 opn) in
    let second = part_between mid part b s other q m
    (length old.nodes.items + 1 + length (tree_nodes r p (n + 1) (length old.nodes.items + 1) old.leaves))
    (old.leaves + length (leaf_paths r p (n + 1))) f (λ y. (behind y).0) (λ y. ap (λ l. l + length (leaf_paths r p (n + 1))) (sym lv) ∙ (behind y).1) h in
    let whole = closed_over old o part new b i n form0 form _ _ at opn lv (between_two o mid part b _ _ _ _ first second) cl lw in
    record {
      nodes = whole.nodes ∙ ap (λ l. map tree_node old.nodes.items ++ l) (sym tn);
      leaves = whole.leaves_more ∙ ap (λ l. old.leaves + l)
          (ap (λ l. if b then l else 0) (sym (length-append (leaf_paths r p (n + 1)) (leaf_paths s q m)))
          ∙ sym (length-if b (leaf_paths r p (n + 1) ++ leaf_paths s q m)) ∙ ap length (sym lp));
    }

-- what a walk over a part says, in the part's own terms
pub grows_at : (old new : TreeDraft) (live : Bool) (k p : Term) (i n : ℕ) → k ≡ p → i ≡ n → Grows old new live k i → Grows old new live p n
grows_at old new live k p i n e h g = subst (λ t. Grows old new live t n) e (subst (λ j. Grows old new live k j) h g)

-- a statement over one part has the nodes of a trap over it, where it passes the part's selection on
pub passing_grown : (old new : TreeDraft) (b : Bool) (k p t : Term) (n : ℕ) → k ≡ p
    → ((i j : ℕ) → tree_nodes b t n i j ≡ tree_nodes b (Trap p) n i j)
    → leaf_paths b t n ≡ leaf_paths b (Trap p) n
    → Grows old new b (Trap k) n
    → Grows old new b t n
passing_grown old new b k p t n e tn lp g =
    let h : Grows old new b (Trap p) n = subst (λ s. Grows old new b (Trap s) n) e g in
    record {
      nodes = h.nodes ∙ ap (λ l. map tree_node old.nodes.items ++ l) (sym (tn (length old.nodes.items) old.leaves));
      leaves = h.leaves ∙ ap (λ l. old.leaves + length l) (sym lp);
    }

-- two parts whose terms are these
pub two_grown : (old new : TreeDraft) (b : Bool) (n : ℕ) (over : Term → Term → Term) (k l p q : Term) → k ≡ p → l ≡ q
    → Grows old new b (over k l) n → Grows old new b (over p q) n
two_grown old new b n over k l p q e h g = subst (λ s. Grows old new b (over s q) n) e (subst (λ s. Grows old new b (over k s) n) h g)

-- the nodes of a test do not depend on its signal
pub test_grown : (old new : TreeDraft) (b : Bool) (n : ℕ) (e : Expression) (p q : Term) → Grows old new b (Present Tick p q) n
    → Grows old new b (Present e p q) n
test_grown old new b n e p q g = record { nodes = g.nodes; leaves = g.leaves }

-- the codes of a parallel whose branches have these terms
pub codes_of_two : (c : Codes) (n : ℕ) (k l p q : Term) → k ≡ p → l ≡ q → CodesFrom c (Par p q) n → CodesFrom c (Par k l) n
codes_of_two c n k l p q e h x = subst (λ s. CodesFrom c (Par s l) n) (sym e) (subst (λ s. CodesFrom c (Par p s) n) (sym h) x)

-- the walk over a body, which begins with no node
pub record IsTreeOf (new : TreeDraft) (body : Term) : Type 0 where
  pub nodes : map tree_node new.nodes.items ≡ tree_nodes (resumes body) body 0 0 0
  pub leaves : new.leaves ≡ length (leaf_paths (resumes body) body 0)

pub body_grown : (old new : TreeDraft) (live : Bool) (body : Term)
    → old.nodes.items ≡ []
    → old.leaves ≡ 0
    → live ≡ resumes body
    → Grows old new live body 0
    → IsTreeOf new body
body_grown old new live body e z l g = record {
  nodes = g.nodes ∙ λ i. map tree_node (e i) ++ tree_nodes (l i) body 0 (length (e i)) (z i);
  leaves = g.leaves ∙ (λ i. z i + length (leaf_paths (l i) body 0))
      ∙ (let s : 0 + length (leaf_paths (resumes body) body 0) ≡ length (leaf_paths (resumes body) body 0) = omega arith in s);
}

-- Where the nodes of a statement and of its second part stand in a selection tree's list.
use Rattle.std.proofs.Common.{◌≡◌, ℕ, ◌+◌, ◌<◌, ◌≤◌, Bool, true, false, ◌==◌, ◌&&◌, List, [], ◌∷◌, ◌++◌, length, map, get_or, refl, sym}
use Rattle.std.proofs.Common.{ap, ◌∙◌, subst, ⊎_elim, arith, length-append}
use Rattle.std.specs.Prelude.{nat_lt}
use Rattle.std.proofs.lemmas.List.{get_or-append-add, length-map, get_or-map, get_or_append_left, get_or_default}
use Rattle.std.proofs.lemmas.Bool.{eq-eqb, ne_eqb, lt-ltb, le-ltb, cases_lt, and_from}
use Rattle.std.proofs.Math.Bool.{and-false}
use Rattle.base_facts.proofs.Tests.{if-false, if-true}
use Rattle.est_kernel.specs.Terms.{Term, Nothing, Pause, Emit, Exit, Awake}
use Rattle.grc_graph.specs.declared.trees.SelNode.{SelNode}
use Rattle.grc_graph.specs.SelectionTrees.{Form, Leaf, TreeNode, tree_nodes, subtree_if}
use Rattle.grc_graph.specs.TreeForms.{tree_node, end_of, SubtreesNest}
use Rattle.net_state_enc.specs.TreeWalks.{second_place}

-- the first node of a statement that has nodes: its number, and the place after them all
pub record Heads (ns : List TreeNode) (n i : ℕ) : Type 0 where
  pub path : (d : TreeNode) → 0 < length ns → (get_or ns 0 d).path ≡ n
  pub after : (d : TreeNode) → 0 < length ns → (get_or ns 0 d).after ≡ i + length ns

heads_nil : (n i : ℕ) → Heads [] n i
heads_nil n i = record { path = λ d h. absurd (omega arith); after = λ d h. absurd (omega arith) }

heads_if : (b : Bool) (n i : ℕ) (f : Form) (xs : List TreeNode) → Heads (subtree_if b n i f xs) n i
heads_if true n i f xs = record {
  path = λ d h. refl;
  after = λ d h.
      (let e : i + 1 + length xs ≡ i + length (record { path = n; after = i + 1 + length xs; form = f } ∷ xs) = omega arith in e);
}
heads_if false n i f xs = heads_nil n i

pub heads_tree : (b : Bool) (t : Term) (n i k : ℕ) → Heads (tree_nodes b t n i k) n i
heads_tree b Nothing n i k = heads_nil n i
heads_tree b Pause n i k = heads_if b n i (Leaf k) []
heads_tree b (Emit s) n i k = heads_nil n i
heads_tree b (Exit c) n i k = heads_nil n i
heads_tree b (Awake e p) n i k = heads_nil n i
heads_tree b _ n i k = heads_if b n i _ _

-- ---- the place of the second part

-- the node at a place of a list that has these nodes there
pub node_there : (nodes : List SelNode) (pre xs post : List TreeNode) (i j : ℕ) (d : SelNode)
    → map tree_node nodes ≡ pre ++ (xs ++ post)
    → i ≡ length pre + j
    → j < length xs
    → tree_node (get_or nodes i d) ≡ get_or xs j (tree_node d)
node_there nodes pre xs post i j d e at within =
    let inside : i < length nodes
    = omega (arith, length-map nodes tree_node, ap length e, length-append pre (xs ++ post), length-append xs post) in
    sym (get_or-map tree_node nodes i d (tree_node d) inside)
    ∙ (λ k. get_or (e k) (at k) (tree_node d))
    ∙ get_or-append-add pre (xs ++ post) j (tree_node d)
    ∙ get_or_append_left xs post (tree_node d) j within

-- the second part begins after the nodes of the first
pub middle_of : (nodes : List SelNode) (nest : SubtreesNest nodes) (i n m : ℕ) (d : SelNode) (pre A B post : List TreeNode) (f : Form)
    → map tree_node nodes ≡ pre ++ ((record { path = n; after = i + 1 + length (A ++ B); form = f } ∷ (A ++ B)) ++ post)
    → i ≡ length pre
    → Heads A (n + 1) (i + 1)
    → Heads B m (i + 1 + length A)
    → n + 1 < m
    → second_place nodes i d ≡ i + 1 + length A
middle_of nodes nest i n m d pre A B post f e at a b lt =
    let x : TreeNode = record { path = n; after = i + 1 + length (A ++ B); form = f } in
    let here : tree_node (get_or nodes i d) ≡ x
    = node_there nodes pre (x ∷ (A ++ B)) post i 0 d e (omega (arith, at)) (omega arith) in
    let end : end_of nodes i d ≡ i + 1 + length (A ++ B) = ap (λ y. y.after) here in
    let path : (get_or nodes i d).path.0 ≡ n = ap (λ y. y.path) here in
    let both : length (A ++ B) ≡ length A + length B = length-append A B in
    let test = nat_lt (i + 1) (end_of nodes i d) && (get_or nodes (i + 1) d).path.0 == (get_or nodes i d).path.0 + 1 in
    ⊎_elim
    (λ (none : length A < 1).
    ⊎_elim
    (λ (empty : length B < 1).
    if-false test _ _ (ap (λ v. v && (get_or nodes (i + 1) d).path.0 == (get_or nodes i d).path.0 + 1)
    (le-ltb (i + 1) (end_of nodes i d) (omega (arith, end, both))))
    ∙ (let r : i + 1 ≡ i + 1 + length A = omega arith in r))
    (λ (some : 1 ≤ length B).
    let next : tree_node (get_or nodes (i + 1) d) ≡ get_or (A ++ B) 0 (tree_node d)
    = node_there nodes pre (x ∷ (A ++ B)) post (i + 1) 1 d e (omega (arith, at)) (omega (arith, both)) in
    let second : get_or (A ++ B) 0 (tree_node d) ≡ get_or B 0 (tree_node d)
    = (let z : 0 ≡ length A + 0 = omega arith in ap (λ j. get_or (A ++ B) j (tree_node d)) z) ∙ get_or-append-add A B 0 (tree_node d) in
    let number : (get_or nodes (i + 1) d).path.0 ≡ m = ap (λ y. y.path) (next ∙ second) ∙ b.path (tree_node d) (omega arith) in
    if-false test _ _
    (ap (λ v. nat_lt (i + 1) (end_of nodes i d) && v) (ne_eqb _ _ (λ q. omega (arith, q, number, path, lt))) ∙ and-false _)
    ∙ (let r : i + 1 ≡ i + 1 + length A = omega arith in r))
    (cases_lt (length B) 1))
    (λ (some : 1 ≤ length A).
    let next : tree_node (get_or nodes (i + 1) d) ≡ get_or (A ++ B) 0 (tree_node d)
    = node_there nodes pre (x ∷ (A ++ B)) post (i + 1) 1 d e (omega (arith, at)) (omega (arith, both)) in
    let first : get_or (A ++ B) 0 (tree_node d) ≡ get_or A 0 (tree_node d) = get_or_append_left A B (tree_node d) 0 (omega arith) in
    let number : (get_or nodes (i + 1) d).path.0 ≡ n + 1 = ap (λ y. y.path) (next ∙ first) ∙ a.path (tree_node d) (omega arith) in
    let behind : end_of nodes (i + 1) d ≡ i + 1 + length A = ap (λ y. y.after) (next ∙ first) ∙ a.after (tree_node d) (omega arith) in
    if-true test _ _
    (and_from _ _ (lt-ltb (i + 1) (end_of nodes i d) (omega (arith, end, both))) (eq-eqb _ _ (omega (arith, number, path))))
    ∙ behind)
    (cases_lt (length A) 1)

-- the end of a first part that is there
pub record Second (nodes : List SelNode) (i j : ℕ) (d : SelNode) : Type 0 where
  pub place : j ≡ second_place nodes i d
  pub after : i < j
  pub within : j ≤ end_of nodes i d

pub second_found : (nodes : List SelNode) (nest : SubtreesNest nodes) (i : ℕ) (d here next end : SelNode)
    → i < length nodes
    → here ≡ get_or nodes i here
    → next ≡ get_or nodes (i + 1) next
    → end ≡ get_or nodes (i + 1) end
    → i + 1 < here.after
    → (next.path.0 == here.path.0 + 1) ≡ true
    → Second nodes i end.after d
second_found nodes nest i d here next end within h n e lt test =
    let at : here ≡ get_or nodes i d = h ∙ get_or_default nodes i here d within in
    let last : here.after ≤ length nodes = rw at (nest.ended i d within) in
    let inside : i + 1 < length nodes = omega arith in
    let following : next ≡ get_or nodes (i + 1) d = n ∙ get_or_default nodes (i + 1) next d inside in
    let close : end ≡ get_or nodes (i + 1) d = e ∙ get_or_default nodes (i + 1) end d inside in
    let later : i + 1 < end_of nodes i d = subst (λ x. i + 1 < x.after) at lt in
    record {
      place = ap (λ x. x.after) close
          ∙ sym (if-true _ _ _ (and_from _ _ (lt-ltb (i + 1) (end_of nodes i d) later)
          ((λ j. (sym following j).path.0 == (sym at j).path.0 + 1) ∙ test)));
      after = let b = nest.begun (i + 1) d inside in subst (λ x. i < x.after) (sym close) (omega arith);
      within = subst (λ x. x.after ≤ end_of nodes i d) (sym close) (nest.whole i (i + 1) d inside (omega arith) later);
    }

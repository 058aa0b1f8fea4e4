-- Worked lists of nodes, by hand: plain forms of nodes, subtrees that nest, and leaves that are numbered in order.
use Rattle.std.proofs.Common.{◌≡◌, ◌<◌, ◌≤◌, ℕ, zero, suc, true, false, List, [], ◌∷◌, map, slice_index_or, IsTrue, refl, arith, lit<, lit≤}
use Rattle.std.proofs.lemmas.Bool.{false≢true}
use Rattle.grc_graph.specs.declared.trees.SelForm.{SelForm}
use Rattle.grc_graph.specs.declared.trees.SelForm.TheVariants as forms
use Rattle.grc_graph.specs.declared.trees.SelNode.{SelNode}
use Rattle.grc_graph.specs.SelectionTrees.{Leaf, Exclusive, Parallel, Passing}
use Rattle.grc_graph.specs.TreeForms.{form_of, tree_node, is_leaf, end_of, SubtreesNest, leaves_before, is_numbered, LeavesAscend}

abbrev each : List SelForm
each = forms.Leaf 4 ∷ forms.Excl ∷ forms.Par true false ∷ forms.Pass ∷ []

plain_forms : map form_of each ≡ Leaf 4 ∷ Exclusive ∷ Parallel true false ∷ Passing ∷ []
plain_forms = refl

which_are_leaves : map is_leaf each ≡ true ∷ false ∷ false ∷ false ∷ []
which_are_leaves = refl

numbered_so : map (λ form. is_numbered form 4) each ≡ true ∷ true ∷ true ∷ true ∷ []
numbered_so = refl

numbered_otherwise : map (λ form. is_numbered form 3) each ≡ false ∷ true ∷ true ∷ true ∷ []
numbered_otherwise = refl

-- ---- nodes

abbrev node : ℕ → ℕ → SelForm → SelNode
node path after form = record { path = record { 0 = path }; after = after; form = form }

plain_node : tree_node (node 7 3 forms.Excl) ≡ record { path = 7; after = 3; form = Exclusive }
plain_node = refl

abbrev any_node : SelNode
any_node = node 0 9 forms.Pass

-- a sequence of two pauses
abbrev two_pauses : List SelNode
two_pauses = node 0 3 forms.Excl ∷ node 1 2 (forms.Leaf 0) ∷ node 2 3 (forms.Leaf 1) ∷ []

ends : map (λ i. end_of two_pauses i any_node) (0 ∷ 1 ∷ 2 ∷ 3 ∷ []) ≡ 3 ∷ 2 ∷ 3 ∷ 9 ∷ []
ends = refl

leaves_in_front : map (leaves_before two_pauses) (0 ∷ 1 ∷ 2 ∷ 3 ∷ []) ≡ 0 ∷ 0 ∷ 1 ∷ 2 ∷ []
leaves_in_front = refl

nothing_nests : SubtreesNest []
nothing_nests = record {
  begun = λ i d low. absurd (omega (arith, low));
  ended = λ i d low. absurd (omega (arith, low));
  whole = λ i j d low after inside. absurd (omega (arith, low));
}

they_nest : SubtreesNest two_pauses
they_nest = record { begun = begins; ended = within; whole = inside }
  where
    begins : (i : ℕ) (d : SelNode) → i < 3 → i < end_of two_pauses i d
    begins zero d low = lit< tt
    begins (suc zero) d low = lit< tt
    begins (suc (suc zero)) d low = lit< tt
    begins (suc (suc (suc i))) d low = absurd (omega (arith, low))

    within : (i : ℕ) (d : SelNode) → i < 3 → end_of two_pauses i d ≤ 3
    within zero d low = lit≤ tt
    within (suc zero) d low = lit≤ tt
    within (suc (suc zero)) d low = lit≤ tt
    within (suc (suc (suc i))) d low = absurd (omega (arith, low))

    inside : (i j : ℕ) (d : SelNode) → j < 3 → i < j → j < end_of two_pauses i d → end_of two_pauses j d ≤ end_of two_pauses i d
    inside i (suc (suc (suc j))) d low after before = absurd (omega (arith, low))
    inside i zero d low after before = absurd (omega (arith, after))
    inside zero (suc zero) d low after before = lit≤ tt
    inside zero (suc (suc zero)) d low after before = lit≤ tt
    inside (suc zero) (suc zero) d low after before = absurd (omega (arith, after))
    inside (suc zero) (suc (suc zero)) d low after before = absurd (omega (arith, before))
    inside (suc (suc i)) (suc zero) d low after before = absurd (omega (arith, after))
    inside (suc (suc i)) (suc (suc zero)) d low after before = absurd (omega (arith, after))

no_subtree_without_its_node : SubtreesNest (node 0 0 forms.Pass ∷ []) → ⊥
no_subtree_without_its_node h = let low = h.begun 0 any_node (lit< tt) in omega (arith, low)

no_subtree_behind_the_end : SubtreesNest (node 0 2 forms.Pass ∷ []) → ⊥
no_subtree_behind_the_end h = let low = h.ended 0 any_node (lit< tt) in omega (arith, low)

no_subtree_cut : SubtreesNest (node 0 2 forms.Pass ∷ node 1 3 forms.Pass ∷ node 2 3 (forms.Leaf 0) ∷ []) → ⊥
no_subtree_cut h = let low = h.whole 0 1 any_node (lit< tt) (lit< tt) (lit< tt) in omega (arith, low)

they_ascend : LeavesAscend two_pauses 2
they_ascend = record { numbered = numbers; counted = refl }
  where
    numbers : (i : ℕ) (d : SelNode) → i < 3 → IsTrue (is_numbered (slice_index_or two_pauses i d).form (leaves_before two_pauses i))
    numbers zero d low = refl
    numbers (suc zero) d low = refl
    numbers (suc (suc zero)) d low = refl
    numbers (suc (suc (suc i))) d low = absurd (omega (arith, low))

not_three_leaves : LeavesAscend two_pauses 3 → ⊥
not_three_leaves h = let e = h.counted in omega (arith, e)

none_out_of_order : LeavesAscend (node 0 1 (forms.Leaf 1) ∷ []) 1 → ⊥
none_out_of_order h = false≢true (h.numbered 0 any_node (lit< tt))

-- For each statement the leaf that it is: from the last node of the tree to the first.
use Rattle.std.proofs.Common.{◌≡◌, ℕ, ◌+◌, ◌<◌, ◌≤◌, suc, Bool, true, false, cond, count_by, ◌==◌, List, [], ◌∷◌, ◌++◌, length, map, take, drop, replicate}
use Rattle.std.proofs.Common.{slice_index_or, slice_set, refl, sym, ap, ◌∙◌, subst, arith, IsTrue, inl, inr, drop-cons, length-append, length-set}
use Rattle.std.proofs.Common.{get_or-set_same, get_or-set_other}
use Rattle.std.specs.Prelude.{if◌then◌else◌}
use Rattle.std.proofs.lemmas.Bool.{cases_eq, eq-eqb, ne_eqb, eqb-true, lt-ltb, false≢true}
use Rattle.std.proofs.lemmas.List.{get_or-replicate, length-replicate, drop_all}
use Rattle.std.proofs.lemmas.List.Sums.{sum_by-cons, sum_by-take-le, count_by_more_yes, count_by_more_no}
use Rattle.grc_graph.specs.declared.graph.Graph.{Graph}
use Rattle.grc_graph.specs.declared.trees.SelForm.{SelForm}
use Rattle.grc_graph.specs.declared.trees.SelForm.TheVariants as forms
use Rattle.grc_graph.specs.declared.trees.SelNode.{SelNode}
use Rattle.grc_graph.specs.SelectionTrees.{selecting, body_tree, body_leaves, resumes}
use Rattle.grc_graph.proofs.Exports.{leaves_among}
use Rattle.est_kernel.specs.Terms.{Term}
use Rattle.est_kernel.specs.Plain.{program_of}
use Rattle.est_kernel.specs.Preorder.{statement_count}
use Rattle.grc_formulas.specs.Choosing.{LeavesChosen, FalseUnlessResumed}
use Rattle.grc_formulas.specs.Sizes.{statement_row}
use Rattle.grc_formulas.proofs.LeafRows.{body-leaves-resumed}
use Rattle.grc_formulas.proofs.LeafPaths.{leaves_in-append, leaves-body_tree}
use Rattle.std.proofs.lemmas.List.{take-append-drop, map-append}
use Rattle.std.proofs.Math.Seq.{get_or-append_seam}
use Rattle.grc_graph.specs.TreeForms.{tree_node, form_of, is_leaf, is_numbered, leaves_before, LeavesAscend}
use Rattle.grc_formulas.specs.declared.table.Source.{Source}
use Rattle.grc_formulas.specs.declared.table.Source.TheVariants.{Const, Leaf}
use Rattle.grc_formulas.specs.Building.{Says}
use Rattle.grc_formulas.specs.LeafLists.{path_if_leaf, leaves_in}
use Rattle.grc_formulas.specs.Occasions.{Occasion}
use Rattle.grc_formulas.specs.WordLaws.{early_bounds}

-- what the leaves from a place on say
abbrev pub chosen_from : (g : Graph) → List SelNode → ℕ → Occasion g → ℕ → Bool
chosen_from g nodes place t n = selecting (leaves_in (map tree_node (drop place nodes))) (drop (leaves_before nodes place) t.bits) n

pub record ChosenFrom (g : Graph) (nodes : List SelNode) (count : ℕ) (sources : List Source) (place : ℕ) : Type 0 where
  pub many : length sources ≡ count
  pub resumed : FalseUnlessResumed g sources
  pub says : (n : ℕ) (d : Source) → n < count → Says g (early_bounds g 0) [] (slice_index_or sources n d) (λ t. chosen_from g nodes place t n)

node-next : (nodes : List SelNode) (j : ℕ) (d : SelNode) → j < length nodes → drop j nodes ≡ slice_index_or nodes j d ∷ drop (j + 1) nodes
node-next nodes j d low = let e : suc j ≡ j + 1 = omega arith in drop-cons nodes j d low ∙ ap (λ i. slice_index_or nodes j d ∷ drop i nodes) e

leaves-next : (nodes : List SelNode) (j : ℕ) (d : SelNode) → j < length nodes
    → leaves_in (map tree_node (drop j nodes))
    ≡ path_if_leaf (tree_node (slice_index_or nodes j d)).form (slice_index_or nodes j d).path.0 ++ leaves_in (map tree_node (drop (j + 1) nodes))
leaves-next nodes j d low = ap (λ xs. leaves_in (map tree_node xs)) (node-next nodes j d low)

-- as many leaves as nodes that are leaves
length-leaves_in : (nodes : List SelNode) → length (leaves_in (map tree_node nodes)) ≡ count_by (λ (x : SelNode). is_leaf x.form) nodes
length-leaves_in [] = refl
length-leaves_in (x ∷ xs) =
    let rest = length-leaves_in xs in
    let whole = sum_by-cons (λ (y : SelNode). cond (is_leaf y.form) 1 0) x xs in
    let here = length-append (path_if_leaf (tree_node x).form x.path.0) (leaves_in (map tree_node xs)) in
    let one : length (path_if_leaf (tree_node x).form x.path.0) ≡ cond (is_leaf x.form) 1 0 = one_leaf x.form x.path.0 in
    omega arith
  where
    one_leaf : (f : SelForm) (n : ℕ) → length (path_if_leaf (form_of f) n) ≡ cond (is_leaf f) 1 0
    one_leaf (forms.Leaf k) n = refl
    one_leaf forms.Excl n = refl
    one_leaf (forms.Par a b) n = refl
    one_leaf forms.Pass n = refl

-- a node that is no leaf says nothing
chosen-other : (g : Graph) (nodes : List SelNode) (j : ℕ) (x : SelNode) (t : Occasion g) (n : ℕ) → j < length nodes → slice_index_or nodes j x ≡ x
    → is_leaf x.form ≡ false → path_if_leaf (form_of x.form) x.path.0 ≡ [] → chosen_from g nodes j t n ≡ chosen_from g nodes (j + 1) t n
chosen-other g nodes j x t n low read none empty =
    let paths = leaves-next nodes j x low
    ∙ ap (λ (y : SelNode). path_if_leaf (tree_node y).form y.path.0 ++ leaves_in (map tree_node (drop (j + 1) nodes))) read
    ∙ ap (λ l. l ++ leaves_in (map tree_node (drop (j + 1) nodes))) empty in
    let same : leaves_before nodes (j + 1) ≡ leaves_before nodes j =
    count_by_more_no (λ (y : SelNode). is_leaf y.form) nodes j x low (ap (λ (y : SelNode). is_leaf y.form) read ∙ none) in
    ap (λ l. selecting l (drop (leaves_before nodes j) t.bits) n) paths
    ∙ ap (λ k. selecting (leaves_in (map tree_node (drop (j + 1) nodes))) (drop k t.bits) n) (sym same)

-- a leaf says whether it is selected
record LeafAt (nodes : List SelNode) (j k : ℕ) (x : SelNode) : Type 0 where
  low : j < length nodes
  read : slice_index_or nodes j x ≡ x
  form : x.form ≡ forms.Leaf k

leaf-number : (nodes : List SelNode) (leaves j k : ℕ) (x : SelNode) → LeavesAscend nodes leaves → LeafAt nodes j k x → k ≡ leaves_before nodes j
leaf-number nodes leaves j k x ascend at =
    let numbered = ascend.numbered j x at.low in
    let here : IsTrue (is_numbered (forms.Leaf k) (leaves_before nodes j)) =
    subst (λ f. IsTrue (is_numbered f (leaves_before nodes j))) (ap (λ (y : SelNode). y.form) at.read ∙ at.form) numbered in
    eqb-true k (leaves_before nodes j) here

leaf-counted : (nodes : List SelNode) (j k : ℕ) (x : SelNode) → LeafAt nodes j k x → leaves_before nodes (j + 1) ≡ leaves_before nodes j + 1
leaf-counted nodes j k x at =
    count_by_more_yes (λ (y : SelNode). is_leaf y.form) nodes j x at.low (ap (λ (y : SelNode). is_leaf y.form) at.read ∙ ap is_leaf at.form)

leaf-below : (nodes : List SelNode) (leaves j k : ℕ) (x : SelNode) → LeavesAscend nodes leaves → LeafAt nodes j k x
    → k < length (leaves_in (map tree_node nodes))
leaf-below nodes leaves j k x ascend at =
    omega (
      arith,
      leaf-number nodes leaves j k x ascend at,
      leaf-counted nodes j k x at,
      length-leaves_in nodes,
      sum_by-take-le (λ (y : SelNode). cond (is_leaf y.form) 1 0) nodes (j + 1),
    )

chosen-leaf : (g : Graph) (nodes : List SelNode) (leaves j k : ℕ) (x : SelNode) (t : Occasion g) (n : ℕ) → LeavesAscend nodes leaves → LeafAt nodes j k x
    → k < length t.bits
    → chosen_from g nodes j t n ≡ (if n == x.path.0 then slice_index_or t.bits k false else chosen_from g nodes (j + 1) t n)
chosen-leaf g nodes leaves j k x t n ascend at low =
    let number = leaf-number nodes leaves j k x ascend at in
    let counted = leaf-counted nodes j k x at in
    let rest = leaves_in (map tree_node (drop (j + 1) nodes)) in
    let paths = leaves-next nodes j x at.low ∙ ap (λ (y : SelNode). path_if_leaf (tree_node y).form y.path.0 ++ rest) at.read
    ∙ ap (λ f. path_if_leaf (form_of f) x.path.0 ++ rest) at.form in
    let e : suc k ≡ leaves_before nodes (j + 1) = omega arith in
    let bits : drop (leaves_before nodes j) t.bits ≡ slice_index_or t.bits k false ∷ drop (leaves_before nodes (j + 1)) t.bits =
    ap (λ i. drop i t.bits) (sym number) ∙ drop-cons t.bits k false low ∙ ap (λ i. slice_index_or t.bits k false ∷ drop i t.bits) e in
    ap (λ l. selecting l (drop (leaves_before nodes j) t.bits) n) paths ∙ ap (λ l. selecting (x.path.0 ∷ rest) l n) bits

says-is : (g : Graph) (s : Source) (m n : Occasion g → Bool) → ((t : Occasion g) → m t ≡ n t) → Says g (early_bounds g 0) [] s m →
    Says g (early_bounds g 0) [] s n
says-is g s m n e h = record { fits = h.fits; value = λ t off. h.value t off ∙ e t }

leaf-says : (g : Graph) (k : ℕ) → k < length g.next.items → Says g (early_bounds g 0) [] (Leaf k) (λ t. slice_index_or t.bits k false)
leaf-says g k low = record { fits = lt-ltb k (length g.next.items) low; value = λ t off. refl }

-- before any node no statement is chosen
pub chosen-none : (g : Graph) (nodes : List SelNode) (count : ℕ) (sources : List Source) (place : ℕ) → length nodes ≤ place →
    sources ≡ replicate count (Const false)
    → ChosenFrom g nodes count sources place
chosen-none g nodes count sources place end e =
    let many : length sources ≡ count = ap length e ∙ length-replicate count (Const false) in
    let gone = drop_all place nodes end in
    record {
      many = many;
      resumed = λ n d low no. ap (λ xs. slice_index_or xs n d) e ∙ get_or-replicate count n (Const false) d (omega arith);
      says = λ n d low.
          let at : slice_index_or sources n d ≡ Const false = ap (λ xs. slice_index_or xs n d) e ∙ get_or-replicate count n (Const false) d low in
          subst (λ s. Says g (early_bounds g 0) [] s (λ t. chosen_from g nodes place t n)) (sym at) (record {
            fits = refl;
            value = λ t off. sym (ap (λ xs. selecting (leaves_in (map tree_node xs)) (drop (leaves_before nodes place) t.bits) n) gone);
          });
    }

chosen-skip : (g : Graph) (nodes : List SelNode) (count : ℕ) (sources : List Source) (place j : ℕ) (x : SelNode) → ChosenFrom g nodes count sources place
    → place ≡ j + 1 → j < length nodes → x ≡ slice_index_or nodes j x → is_leaf x.form ≡ false → path_if_leaf (form_of x.form) x.path.0 ≡ []
    → ChosenFrom g nodes count sources j
chosen-skip g nodes count sources place j x c e low read none empty = record {
  many = c.many;
  resumed = c.resumed;
  says = λ n d h. says-is g (slice_index_or sources n d) _ _ (λ t.
      ap (λ i. chosen_from g nodes i t n) e ∙ sym (chosen-other g nodes j x t n low (sym read) none empty)) (c.says n d h);
}

other-form : (f : SelForm) (n : ℕ) → ((k : ℕ) → f ≡ forms.Leaf k → ⊥) → (is_leaf f ≡ false) × (path_if_leaf (form_of f) n ≡ [])
other-form (forms.Leaf k) n h = absurd (h k refl)
other-form forms.Excl n h = (refl, refl)
other-form (forms.Par a b) n h = (refl, refl)
other-form forms.Pass n h = (refl, refl)

pub chosen-other-form : (g : Graph) (nodes : List SelNode) (count : ℕ) (sources : List Source) (place j : ℕ) (x : SelNode)
    → ChosenFrom g nodes count sources place → place ≡ j + 1 → j < length nodes → x ≡ slice_index_or nodes j x
    → ((k : ℕ) → x.form ≡ forms.Leaf k → ⊥) → ChosenFrom g nodes count sources j
chosen-other-form g nodes count sources place j x c e low read other =
    let form = other-form x.form x.path.0 other in
    chosen-skip g nodes count sources place j x c e low read form.0 form.1

pub chosen-set : (g : Graph) (nodes : List SelNode) (leaves count : ℕ) (sources : List Source) (place j k : ℕ) (x : SelNode) →
    ChosenFrom g nodes count sources place
    → place ≡ j + 1 → j < length nodes → x ≡ slice_index_or nodes j x → x.form ≡ forms.Leaf k → LeavesAscend nodes leaves
    → length g.next.items ≡ length (leaves_in (map tree_node nodes)) → x.path.0 < count → (statement_row g x.path.0).live.resumed ≡ true
    → ChosenFrom g nodes count (slice_set sources x.path.0 (Leaf k)) j
chosen-set g nodes leaves count sources place j k x c e low read form ascend next within resumed =
    let at : LeafAt nodes j k x = record { low = low; read = sym read; form = form } in
    let below = leaf-below nodes leaves j k x ascend at in
    record {
      many = length-set sources x.path.0 (Leaf k) ∙ c.many;
      resumed = λ n d h no. elim (cases_eq n x.path.0) [
        | inl same ↦ absurd (false≢true (sym no ∙ ap (λ i. (statement_row g i).live.resumed) same ∙ resumed))
        | inr other ↦
            get_or-set_other sources x.path.0 n (Leaf k) d other ∙ c.resumed n d (omega (arith, length-set sources x.path.0 (Leaf k))) no
      ];
      says = λ n d h. elim (cases_eq n x.path.0) [
        | inl same ↦
            let put : slice_index_or (slice_set sources x.path.0 (Leaf k)) n d ≡ Leaf k =
            ap (λ i. slice_index_or (slice_set sources x.path.0 (Leaf k)) i d) same ∙ get_or-set_same sources x.path.0 (Leaf k) d (omega (arith, c.many)) in
            subst (λ s. Says g (early_bounds g 0) [] s (λ t. chosen_from g nodes j t n)) (sym put)
            (says-is g (Leaf k) _ _ (λ t. sym (chosen-leaf g nodes leaves j k x t n ascend at (omega (arith, t.one_per_leaf))
            ∙ ap (λ b. if b then slice_index_or t.bits k false else chosen_from g nodes (j + 1) t n) (eq-eqb n x.path.0 same))) (leaf-says g k (omega arith)))
        | inr other ↦
            let kept = get_or-set_other sources x.path.0 n (Leaf k) d other in
            subst (λ s. Says g (early_bounds g 0) [] s (λ t. chosen_from g nodes j t n)) (sym kept)
            (says-is g (slice_index_or sources n d) _ _ (λ t. ap (λ i. chosen_from g nodes i t n) e
            ∙ sym (chosen-leaf g nodes leaves j k x t n ascend at (omega (arith, t.one_per_leaf))
            ∙ ap (λ b. if b then slice_index_or t.bits k false else chosen_from g nodes (j + 1) t n) (ne_eqb n x.path.0 other))) (c.says n d h))
      ];
    }

-- where a leaf stands among the body's
record LeafStands (body : Term) (n : ℕ) : Type 0 where
  place : ℕ
  low : place < length (body_leaves body)
  is : slice_index_or (body_leaves body) place 0 ≡ n

leaf-stands : (body : Term) (nodes : List SelNode) (j k : ℕ) (x : SelNode) → map tree_node nodes ≡ body_tree body → j < length nodes
    → x ≡ slice_index_or nodes j x → x.form ≡ forms.Leaf k → LeafStands body x.path.0
leaf-stands body nodes j k x tree low read form =
    let front = leaves_in (map tree_node (take j nodes)) in
    let rest = leaves_in (map tree_node (drop (j + 1) nodes)) in
    let paths : leaves_in (map tree_node (drop j nodes)) ≡ x.path.0 ∷ rest =
    leaves-next nodes j x low ∙ ap (λ (y : SelNode). path_if_leaf (tree_node y).form y.path.0 ++ rest) (sym read)
    ∙ ap (λ f. path_if_leaf (form_of f) x.path.0 ++ rest) form in
    let split : body_leaves body ≡ front ++ x.path.0 ∷ rest =
    sym (leaves-body_tree body) ∙ ap leaves_in (sym tree) ∙ ap (λ xs. leaves_in (map tree_node xs)) (sym (take-append-drop j nodes))
    ∙ ap leaves_in (map-append tree_node (take j nodes) (drop j nodes))
    ∙ leaves_in-append (map tree_node (take j nodes)) (map tree_node (drop j nodes)) ∙ ap (λ l. front ++ l) paths in
    let many = ap length split ∙ length-append front (x.path.0 ∷ rest) in
    record {
      place = length front;
      low = omega (arith, many);
      is = ap (λ l. slice_index_or l (length front) 0) split ∙ get_or-append_seam front x.path.0 rest 0;
    }

-- a leaf's statement is one of the body's
pub leaf-within : (body : Term) (nodes : List SelNode) (j k : ℕ) (x : SelNode) → map tree_node nodes ≡ body_tree body → j < length nodes
    → x ≡ slice_index_or nodes j x → x.form ≡ forms.Leaf k → x.path.0 < statement_count body
leaf-within body nodes j k x tree low read form =
    let at = leaf-stands body nodes j k x tree low read form in
    omega (arith, (leaves_among (resumes body) body 0 at.place 0 at.low).1, at.is)

-- and may be resumed
pub leaf-resumed : (g : Graph) (nodes : List SelNode) (j k : ℕ) (x : SelNode) → map tree_node nodes ≡ body_tree (program_of g.program).body → j < length nodes
    → x ≡ slice_index_or nodes j x → x.form ≡ forms.Leaf k → (statement_row g x.path.0).live.resumed ≡ true
leaf-resumed g nodes j k x tree low read form =
    let at = leaf-stands (program_of g.program).body nodes j k x tree low read form in
    subst (λ n. (statement_row g n).live.resumed ≡ true) at.is (body-leaves-resumed (program_of g.program) at.place 0 at.low)

pub leaves-many : (body : Term) (nodes : List SelNode) → map tree_node nodes ≡ body_tree body
    → length (leaves_in (map tree_node nodes)) ≡ length (body_leaves body)
leaves-many body nodes tree = ap (λ xs. length (leaves_in xs)) tree ∙ ap length (leaves-body_tree body)

-- once all nodes are passed
pub chosen-all : (g : Graph) (nodes : List SelNode) (count : ℕ) (sources : List Source) (place : ℕ)
    → map tree_node nodes ≡ body_tree (program_of g.program).body → place ≡ 0 → ChosenFrom g nodes count sources place → LeavesChosen g count sources
chosen-all g nodes count sources place tree e c = record {
  many = c.many;
  resumed = c.resumed;
  says = λ n d h. says-is g (slice_index_or sources n d) _ _ (λ t. ap (λ i. chosen_from g nodes i t n) e
      ∙ ap (λ xs. selecting (leaves_in xs) t.bits n) tree ∙ ap (λ l. selecting l t.bits n) (leaves-body_tree (program_of g.program).body)) (c.says n d h);
}

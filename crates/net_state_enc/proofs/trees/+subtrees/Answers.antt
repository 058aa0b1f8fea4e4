use Rattle.std.proofs.Common.{◌≡◌, ◌∙◌, ◌-◌, ◌<◌, ◌≤◌, ap, arith, get_or, length, subst, sym}
use Rattle.std.proofs.lemmas.List.{get_or_default}
use Rattle.grc_graph.specs.declared.trees.SelNode.{SelNode}
use Rattle.grc_graph.specs.declared.trees.SelForm.TheVariants.{Pass}
use Rattle.grc_graph.specs.TreeForms.{end_of, form_of}
use Rattle.net_state_enc.specs.CodeTrees.{shape_in}
use Rattle.net_state_enc.specs.Extents.{AreNarrow}
use Rattle.net_state_enc.specs.Shapes.{Shape, NoLeaf, joined_shape, widths_of}
use Rattle.net_state_enc.specs.TreeWalks.{Folds}
use Rattle.net_state_enc.proofs.Extents.{first-whole, joined-narrow, narrow-more, narrow-none, narrow-slight, second-whole}
use Rattle.net_state_enc.proofs.TreeFolds.{folds-whole, folds-some, folds-none}
use Rattle.net_state_enc.proofs.trees.+subtrees.Goals as goal

pub tree_at-returns-clause-shape : goal.tree_at-returns-clause-shape
tree_at-returns-clause-shape t c d b s n k pre post stands =
    let nodes = c.args.tree.now.nodes.items in
    let first = shape_in c.in_ok-first.first in
    let second = shape_in c.in_ok-second.second in
    let at : c.index-node.result.now ≡ get_or nodes c.args.at d
    = c.index-node.ensures ∙ get_or_default nodes c.args.at c.index-node.result.now d c.requires.within in
    c.in_ok-made.ensures.shape
    ∙ (λ j. joined_shape (form_of (at j).form) first second)
    ∙ folds-whole NoLeaf joined_shape nodes c.args.tree.now.nested c.args.at c.second_part-middle.result d first second c.requires.within
    (c.second_part-middle.ensures.place d) c.in_ok-first.ensures.shape
    (subst (λ x. Folds NoLeaf joined_shape nodes c.second_part-middle.result x.after second) at c.in_ok-second.ensures.shape)
    b s n k pre post stands

pub tree_between-returns-in_ok-made-clause-shape : goal.tree_between-returns-in_ok-made-clause-shape
tree_between-returns-in_ok-made-clause-shape t c =
    let d : SelNode = record { path = record { 0 = 0 }; after = 0; form = Pass } in
    folds-some NoLeaf joined_shape c.args.tree.now.nodes.items c.args.from c.args.to d (shape_in c.in_ok-made.made) c.if-from-to.true
    (c.in_ok-made.ensures.shape d)

pub tree_between-returns-else-from-to-clause-shape : goal.tree_between-returns-else-from-to-clause-shape
tree_between-returns-else-from-to-clause-shape t c =
    folds-none NoLeaf joined_shape c.args.tree.now.nodes.items c.args.from c.args.to c.if-from-to.false

-- ---- how wide the parts are

pub tree_at-tree_between-requires : goal.tree_at-tree_between-requires
tree_at-tree_between-requires t c =
    let tree = c.args.tree.now in
    let nodes = tree.nodes.items in
    let d = c.index-node.result.now in
    let within : c.second_part-middle.result ≤ length nodes =
    omega (arith, c.second_part-middle.ensures.within d, tree.nested.ended c.args.at d c.requires.within) in
    (omega arith, (within, λ e low. first-whole nodes c.args.at c.second_part-middle.result e (c.second_part-middle.ensures.place e) low))

pub tree_at-tree_between-requires-2 : goal.tree_at-tree_between-requires-2
tree_at-tree_between-requires-2 t c =
    let tree = c.args.tree.now in
    let nodes = tree.nodes.items in
    let d = c.index-node.result.now in
    let ended = tree.nested.ended c.args.at d c.requires.within in
    let whole : (e : SelNode) → c.second_part-middle.result < d.after → end_of nodes c.second_part-middle.result e ≤ d.after = λ e low.
    let at : d ≡ get_or nodes c.args.at e = c.index-node.ensures ∙ get_or_default nodes c.args.at d e c.requires.within in
    let end = ap (λ (x : SelNode). x.after) at in
    omega (
      arith,
      end,
      second-whole nodes c.args.at c.second_part-middle.result e tree.nested c.requires.within c.second_part-middle.ensures.after (omega (arith, end, low)),
    ) in
    let end = ap (λ (x : SelNode). x.after) c.index-node.ensures in
    let within : d.after ≤ length nodes = omega (arith, ended, end) in
    (omega (arith, c.second_part-middle.ensures.after), (within, whole))

pub tree_at-joined_tree-requires-clause-first_slight : goal.tree_at-joined_tree-requires-clause-first_slight
tree_at-joined_tree-requires-clause-first_slight t c =
    let tree = c.args.tree.now in
    let d = c.index-node.result.now in
    narrow-slight _ _ c.in_ok-first.ensures.narrow
    (omega (arith, tree.few, c.second_part-middle.ensures.within d, tree.nested.ended c.args.at d c.requires.within))

pub tree_at-joined_tree-requires-clause-second_slight : goal.tree_at-joined_tree-requires-clause-second_slight
tree_at-joined_tree-requires-clause-second_slight t c =
    let tree = c.args.tree.now in
    let d = c.index-node.result.now in
    let end = ap (λ (x : SelNode). x.after) c.index-node.ensures in
    narrow-slight _ _ c.in_ok-second.ensures.narrow (omega (arith, tree.few, end, tree.nested.ended c.args.at d c.requires.within))

pub tree_at-returns-clause-narrow : goal.tree_at-returns-clause-narrow
tree_at-returns-clause-narrow t c d =
    let nodes = c.args.tree.now.nodes.items in
    let first = shape_in c.in_ok-first.first in
    let second = shape_in c.in_ok-second.second in
    let form = form_of c.index-node.result.now.form in
    let middle = c.second_part-middle.result in
    let at : c.index-node.result.now ≡ get_or nodes c.args.at d
    = c.index-node.ensures ∙ get_or_default nodes c.args.at c.index-node.result.now d c.requires.within in
    let end = ap (λ (x : SelNode). x.after) at in
    let joined = joined-narrow form first second _ _ c.in_ok-first.ensures.narrow c.in_ok-second.ensures.narrow in
    let whole = narrow-more (widths_of (joined_shape form first second)) _ (end_of nodes c.args.at d - c.args.at) joined
    (omega (arith, end, c.second_part-middle.ensures.after, c.second_part-middle.ensures.within d)) in
    subst (λ (s : Shape). AreNarrow (widths_of s) (end_of nodes c.args.at d - c.args.at)) (sym c.in_ok-made.ensures.shape) whole

pub tree_between-returns-in_ok-made-clause-narrow : goal.tree_between-returns-in_ok-made-clause-narrow
tree_between-returns-in_ok-made-clause-narrow t c =
    let d : SelNode = record { path = record { 0 = 0 }; after = 0; form = Pass } in
    narrow-more _ _ _ (c.in_ok-made.ensures.narrow d) (omega (arith, c.requires.whole d c.if-from-to.true))

pub tree_between-returns-else-from-to-clause-narrow : goal.tree_between-returns-else-from-to-clause-narrow
tree_between-returns-else-from-to-clause-narrow t c = narrow-none (c.args.to - c.args.from)

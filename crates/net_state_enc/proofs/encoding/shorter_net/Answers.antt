use Rattle.std.proofs.Common.{◌<◌, ◌≤◌, ◌∷◌, ◌∙◌, true, false, inl, [], List, length, All, sym, ap, subst, arith, Vec, Global}
use Rattle.std.specs.Prelude.{replicate}
use Rattle.std.proofs.lemmas.List.{length-map}
use Rattle.net_ir.specs.Runs.{netlist_of}
use Rattle.net_state_enc.specs.declared.codes.Literal.{Literal}
use Rattle.net_state_enc.specs.declared.codes.Way.TheVariants.{Loose}
use Rattle.net_state_enc.specs.CodeTrees.{shape_in}
use Rattle.net_state_enc.specs.Codes.{leaf_codes}
use Rattle.net_state_enc.specs.Drafts.{literals_of}
use Rattle.net_state_enc.specs.Plans.{needs_of}
use Rattle.net_state_enc.specs.Shapes.{widths_of}
use Rattle.net_state_enc.specs.Widths.{Widths}
use Rattle.net_state_enc.proofs.Encoded.{needs-short, needs-within, latches-many, encodes-coded, encodes-copy, coded-size, codes-of-tree}
use Rattle.net_state_enc.proofs.ShapeLaws.{widths-are}
use Rattle.net_state_enc.proofs.encoding.shorter_net.Goals as goal

pub coded_net-requires-clause-count : goal.coded_net-requires-clause-count
coded_net-requires-clause-count c =
    let tree = c.args.tree.now in
    let body = c.requires.tree.0 in
    let codes = literals_of c.deref.result.now in
    let shape = c.in_ok-code.ensures.shape body c.requires.tree.1.nodes in
    let are = ap literals_of c.deref.ensures.value ∙ c.in_ok-codes.ensures ∙ ap (λ t. needs_of (leaf_codes t Loose 0)) shape in
    let many = codes-of-tree tree body codes c.requires.tree.1 are in
    let all = length-map c.deref.result.now (λ (x : Vec Literal Global). x.items) in
    omega (arith, latches-many (netlist_of c.args.net.now) tree.leaves c.requires.latches, all, many)

pub coded_net-requires-clause-narrow : goal.coded_net-requires-clause-narrow
coded_net-requires-clause-narrow c =
    let tree = c.args.tree.now in
    let body = c.requires.tree.0 in
    let codes = literals_of c.deref.result.now in
    let shape = c.in_ok-code.ensures.shape body c.requires.tree.1.nodes in
    let are = ap literals_of c.deref.ensures.value ∙ c.in_ok-codes.ensures ∙ ap (λ t. needs_of (leaf_codes t Loose 0)) shape in
    let many = codes-of-tree tree body codes c.requires.tree.1 are in
    let all = length-map c.deref.result.now (λ (x : Vec Literal Global). x.items) in
    omega (arith, c.if-width-tree.true, all, many)

pub coded_net-requires-clause-within : goal.coded_net-requires-clause-within
coded_net-requires-clause-within c =
    let codes = literals_of c.deref.result.now in
    let are = ap literals_of c.deref.ensures.value ∙ c.in_ok-codes.ensures in
    let wide = ap (λ (w : Widths). w.loose) c.sizes_of-width.ensures.sizes in
    subst (λ w. All (λ (ls : List Literal). All (λ (l : Literal). l.bit < w) ls) codes) (sym wide) (needs-within (shape_in c.in_ok-code.code) codes are)

pub coded_net-requires-clause-short : goal.coded_net-requires-clause-short
coded_net-requires-clause-short c =
    let codes = literals_of c.deref.result.now in
    let are = ap literals_of c.deref.ensures.value ∙ c.in_ok-codes.ensures in
    let wide = ap (λ (w : Widths). w.loose) c.sizes_of-width.ensures.sizes in
    subst (λ w. All (λ (ls : List Literal). length ls ≤ w) codes) (sym wide) (needs-short (shape_in c.in_ok-code.code) codes are)

pub coded_net-requires-clause-inits : goal.coded_net-requires-clause-inits
coded_net-requires-clause-inits c =
    let tree = c.args.tree.now in
    let body = c.requires.tree.0 in
    let codes = literals_of c.deref.result.now in
    let shape = c.in_ok-code.ensures.shape body c.requires.tree.1.nodes in
    let are = ap literals_of c.deref.ensures.value ∙ c.in_ok-codes.ensures ∙ ap (λ t. needs_of (leaf_codes t Loose 0)) shape in
    let many = codes-of-tree tree body codes c.requires.tree.1 are in
    let all = length-map c.deref.result.now (λ (x : Vec Literal Global). x.items) in
    c.requires.latches ∙ ap (λ n. true ∷ replicate n false) (sym many ∙ all)

pub returns-then-width-tree-clause-encodes : goal.returns-then-width-tree-clause-encodes
returns-then-width-tree-clause-encodes c body is =
    let codes = literals_of c.deref.result.now in
    let shape = c.in_ok-code.ensures.shape body is.nodes in
    let are = ap literals_of c.deref.ensures.value ∙ c.in_ok-codes.ensures ∙ ap (λ t. needs_of (leaf_codes t Loose 0)) shape in
    let wide = ap (λ (w : Widths). w.loose) c.sizes_of-width.ensures.sizes ∙ ap (λ t. (widths_of t).loose) shape in
    encodes-coded (netlist_of c.args.net.now) (netlist_of c.in_ok-made.made) body c.args.tree.now c.sizes_of-width.result.loose codes is c.requires.latches
    c.in_ok-made.ensures.coded are wide c.if-width-tree.true c.requires.few

pub returns-then-width-tree-clause-size : goal.returns-then-width-tree-clause-size
returns-then-width-tree-clause-size c =
    let tree = c.args.tree.now in
    let body = c.requires.tree.0 in
    let codes = literals_of c.deref.result.now in
    let shape = c.in_ok-code.ensures.shape body c.requires.tree.1.nodes in
    let are = ap literals_of c.deref.ensures.value ∙ c.in_ok-codes.ensures ∙ ap (λ t. needs_of (leaf_codes t Loose 0)) shape in
    coded-size tree (netlist_of c.args.net.now) (netlist_of c.in_ok-made.made) c.sizes_of-width.result.loose codes c.in_ok-made.ensures.coded
    (codes-of-tree tree body codes c.requires.tree.1 are) c.if-width-tree.true tree.numbered

pub returns-clause-encodes : goal.returns-clause-encodes
returns-clause-encodes c body is =
    let shape = c.in_ok-code.ensures.shape body is.nodes in
    let wide = ap (λ (w : Widths). w.loose) (c.sizes_of-width.ensures.sizes ∙ ap widths_of shape ∙ widths-are body) in
    encodes-copy (netlist_of c.args.net.now) (netlist_of c.in_ok-copy.copy) body c.args.tree.now 0 [] is c.requires.latches c.in_ok-copy.ensures
    (inl (omega (arith, wide, c.if-width-tree.false)))

pub coded_net-requires-clause-leaves : goal.coded_net-requires-clause-leaves
coded_net-requires-clause-leaves c =
    let tree = c.args.tree.now in
    let body = c.requires.tree.0 in
    let codes = literals_of c.deref.result.now in
    let shape = c.in_ok-code.ensures.shape body c.requires.tree.1.nodes in
    let are = ap literals_of c.deref.ensures.value ∙ c.in_ok-codes.ensures ∙ ap (λ t. needs_of (leaf_codes t Loose 0)) shape in
    let many = codes-of-tree tree body codes c.requires.tree.1 are in
    let all = length-map c.deref.result.now (λ (x : Vec Literal Global). x.items) in
    omega (arith, all, many, c.requires.few)

pub returns-then-width-tree-clause-copies : goal.returns-then-width-tree-clause-copies
returns-then-width-tree-clause-copies c = λ same. absurd (omega (
  arith,
  same,
  c.if-width-tree.true,
  latches-many (netlist_of c.args.net.now) c.args.tree.now.leaves c.requires.latches,
  latches-many (netlist_of c.in_ok-made.made) c.sizes_of-width.result.loose c.in_ok-made.ensures.coded.latches,
))

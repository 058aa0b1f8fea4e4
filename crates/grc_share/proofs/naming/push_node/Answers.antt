use Rattle.std.proofs.Common.{◌∷◌, [], cond, sym, ap, ◌∙◌, subst}
use Rattle.std.proofs.lemmas.Option.{get_or_from_slice_get}
use Rattle.est_kernel.specs.Plain.{program_of}
use Rattle.grc_graph.specs.declared.wires.Node.{Node}
use Rattle.grc_graph.specs.Nodes as plain
use Rattle.grc_graph.specs.PlainGraphs.{instances_of, names_of, node_form}
use Rattle.grc_share.specs.Renamings.{GainsNode, spot_in}
use Rattle.grc_share.specs.SharedGraphs.{renamed_node, shared_instances}
use Rattle.grc_share.specs.SharedInstances.{body_sharing}
use Rattle.grc_share.specs.SharedWires.{shared_wires}
use Rattle.grc_share.proofs.EmissionLists.{is-least, node-at, not-least}
use Rattle.grc_share.proofs.SharedNaming.{more-nodes, same-nodes}
use Rattle.grc_share.proofs.naming.push_node.Goals as goal

pub returns-in_ok-push : goal.returns-in_ok-push
returns-in_ok-push c =
    let g = c.args.graph.now in
    let p = program_of g.program in
    let K = body_sharing p.body in
    let i = c.args.i.0 in
    let m = c.args.numbers.now in
    let are = c.requires.numbers in
    let node = c.node_of-node.result in
    let made = c.renamed_node.result in
    let least = is-least g c.requires.built m.least.now m.instances.now m.wires.now are i c.requires.within (record { 0 = 0 }) c.if-numbers-i.true in
    let same = c.renamed_node.ensures.named K (instances_of g) (names_of g) (shared_instances p) (shared_wires p) are.numbers
    ∙ ap (λ (x : Node). renamed_node K (node_form (instances_of g) (names_of g) x))
    (sym (get_or_from_slice_get g.nodes.items i node node c.node_of-node.ensures))
    ∙ ap (renamed_node K) (node-at g c.requires.built i node c.requires.within) in
    let fits = c.renamed_node.ensures.fits K (instances_of g) (names_of g) (shared_instances p) (shared_wires p) are.numbers in
    subst (GainsNode p i c.args.nodes.now.items) (sym c.in_ok-push.ensures.items)
    (more-nodes p i c.args.nodes.now.items made
    ((λ t. same t ∷ []) ∙ sym (ap (λ b. cond b (renamed_node K (plain.spot_node (spot_in p i)) ∷ []) []) least)) fits)

pub returns-else-numbers-i : goal.returns-else-numbers-i
returns-else-numbers-i c =
    let g = c.args.graph.now in
    let p = program_of g.program in
    let K = body_sharing p.body in
    let i = c.args.i.0 in
    let m = c.args.numbers.now in
    let other = not-least g c.requires.built m.least.now m.instances.now m.wires.now c.requires.numbers i c.requires.within (record { 0 = 0 })
    c.if-numbers-i.false in
    same-nodes p i c.args.nodes.now.items (ap (λ b. cond b (renamed_node K (plain.spot_node (spot_in p i)) ∷ []) []) other)

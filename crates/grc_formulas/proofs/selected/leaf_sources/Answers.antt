use Rattle.std.proofs.Common.{◌-◌, ◌<◌, length, arith}
use Rattle.est_kernel.specs.Plain.{term_of}
use Rattle.grc_formulas.proofs.LeafChoices.{chosen-set, chosen-other-form, chosen-all, leaf-within, leaf-resumed, leaves-many}
use Rattle.grc_formulas.proofs.selected.leaf_sources.Goals as goal

pub index_mut-requires : goal.index_mut-requires
index_mut-requires c =
    let nodes = c.args.graph.now.tree.nodes.items in
    let low : c.loop-place.place - 1 < length nodes = omega (arith, c.args.graph.now.tree.nodes.ok.0, c.len-place.ensures) in
    let within = leaf-within (term_of c.args.graph.now.program.body) nodes
    (c.loop-place.place - 1) c.in-Leaf.leaf c.index-node.result.now c.args.graph.now.laid_out.tree low c.index-node.ensures c.in-Leaf.is in
    omega (arith, within, c.loop-place.invariant.many, c.loop-place.sources.ok.0, c.requires)

pub loop-place-preserved-in-Leaf : goal.loop-place-preserved-in-Leaf
loop-place-preserved-in-Leaf c =
    let g = c.args.graph.now in
    let tree = g.tree in
    let nodes = tree.nodes.items in
    let own = g.laid_out.tree in
    let j = c.loop-place.place - 1 in
    let low : j < length nodes = omega (arith, tree.nodes.ok.0, c.len-place.ensures) in
    let within = leaf-within (term_of c.args.graph.now.program.body) nodes j c.in-Leaf.leaf c.index-node.result.now own low c.index-node.ensures
    c.in-Leaf.is in
    chosen-set g nodes tree.leaves c.args.count c.loop-place.sources.items c.loop-place.place j c.in-Leaf.leaf c.index-node.result.now c.loop-place.invariant
    (omega arith) low c.index-node.ensures c.in-Leaf.is tree.numbered
    (omega (arith, leaves-many (term_of c.args.graph.now.program.body) nodes own, g.laid_out.leaves))
    (omega (arith, within, c.requires))
    (leaf-resumed g nodes j c.in-Leaf.leaf c.index-node.result.now own low c.index-node.ensures c.in-Leaf.is)

pub returns : goal.returns
returns c =
    let g = c.args.graph.now in
    chosen-all g g.tree.nodes.items c.args.count c.loop-place.sources.items c.loop-place.place g.laid_out.tree (omega arith) c.loop-place.invariant

pub loop-place-preserved : goal.loop-place-preserved
loop-place-preserved c =
    let nodes = c.args.graph.now.tree.nodes.items in
    let low : c.loop-place.place - 1 < length nodes = omega (arith, c.args.graph.now.tree.nodes.ok.0, c.len-place.ensures) in
    chosen-other-form c.args.graph.now nodes c.args.count c.loop-place.sources.items c.loop-place.place (c.loop-place.place - 1) c.index-node.result.now
    c.loop-place.invariant (omega arith) low c.index-node.ensures c.in_default.not-Leaf

use Rattle.std.proofs.Common.{◌<◌, length, IsTrue, sym, ap, ◌∙◌, subst, arith}
use Rattle.std.proofs.lemmas.Option.{get_or_from_slice_get}
use Rattle.grc_graph.specs.declared.wires.Node.{Node}
use Rattle.grc_graph.specs.GraphShapes.{node_fits}
use Rattle.grc_graph.specs.PlainGraphs.{instances_of, names_of, node_form}
use Rattle.grc_share.specs.SharedGraphs.{emitted_on}
use Rattle.grc_share.proofs.EmissionLists.{emitted, node-at, nothing-emitted}
use Rattle.grc_share.proofs.emissions.emitted_wire.Goals as goal

pub returns-then-numbers-i-clause-found : goal.returns-then-numbers-i-clause-found
returns-then-numbers-i-clause-found c =
    let g = c.args.graph.now in
    let i = c.args.i.0 in
    let m = c.args.numbers.now in
    let node = c.node_of.result in
    let read = get_or_from_slice_get g.nodes.items i node node c.node_of.ensures in
    emitted g c.requires.built m.least.now m.instances.now m.wires.now c.requires.numbers i c.requires.within (record { 0 = 0 }) c.node_emission.result
    c.if-numbers-i.true
    (ap emitted_on (sym (node-at g c.requires.built i node c.requires.within))
    ∙ ap (λ (x : Node). emitted_on (node_form (instances_of g) (names_of g) x)) read
    ∙ c.node_emission.ensures.named (instances_of g) (names_of g))

pub returns-then-numbers-i-clause-within : goal.returns-then-numbers-i-clause-within
returns-then-numbers-i-clause-within c =
    let g = c.args.graph.now in
    let i = c.args.i.0 in
    let node = c.node_of.result in
    let insts = length g.instances.list.items in
    let count = length g.wires.items in
    let low : i < length g.nodes.items = omega (arith, c.requires.within, g.indices.nodes_all) in
    c.node_emission.ensures.within insts count
    (subst (λ (x : Node). IsTrue (node_fits insts count x)) (get_or_from_slice_get g.nodes.items i node node c.node_of.ensures)
    (g.indices.nodes_fit i node low))

pub returns-else-numbers-i-clause-found : goal.returns-else-numbers-i-clause-found
returns-else-numbers-i-clause-found c =
    let g = c.args.graph.now in
    let i = c.args.i.0 in
    let m = c.args.numbers.now in
    nothing-emitted g c.requires.built m.least.now m.instances.now m.wires.now c.requires.numbers i c.requires.within (record { 0 = 0 })
    c.if-numbers-i.false

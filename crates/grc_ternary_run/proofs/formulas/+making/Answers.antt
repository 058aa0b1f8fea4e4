use Rattle.std.proofs.Common.{◌≡◌, ℕ, ◌+◌, List, length, IsTrue, sym, subst, arith, rules}
use Rattle.std.proofs.lemmas.Bool.{ltb-true}
use Rattle.grc_graph.specs.GraphShapes.{formula_fits}
use Rattle.grc_ternary_gates.specs.declared.gates.Gate.{Gate}
use Rattle.grc_ternary_run.specs.Meanings.{GateMade, NodeMade, meaning_of, upto_meaning}
use Rattle.grc_ternary_run.proofs.Making.{node-made, pair-made, ready-stays}
use Rattle.grc_ternary_run.proofs.Making.{upto-made, and-formula, or-formula}
use Rattle.grc_ternary_run.proofs.formulas.+making.Goals as goal

pub make_gate-returns-in-Upto : goal.make_gate-returns-in-Upto
make_gate-returns-in-Upto t c =
    let m = c.args.making.now in
    let table = c.args.table.now.items in
    let i = c.in-Upto.instance.0 in
    let fits = subst (λ x. IsTrue (formula_fits (length m.graph.now.instances.list.items) (length m.graph.now.wires.items) x)) c.in-Upto.is c.requires.fits in
    let made = upto-made m table i c.in-Upto.code c.requires.ready (ltb-true i (length m.graph.now.instances.list.items) fits) in
    subst (λ x. GateMade m table table c.upto_gate.result (meaning_of m x)) (sym c.in-Upto.is)
    (subst (λ (g : Gate). GateMade m table table g (upto_meaning m i c.in-Upto.code)) (sym c.upto_gate.ensures) made)

pub make_node-returns : goal.make_node-returns
make_node-returns t c =
    let m = c.args.making.now in
    let old = c.args.table.now.items in
    let mid = c.make_gate.new.table.items in
    let f = meaning_of m c.args.formula.now in
    let made = node-made m old mid c.in_ok-gate.gate f c.in_ok-gate.ensures in
    let count : c.len.result ≡ length m.graph.now.wires.items = omega (arith, c.len.ensures, m.graph.now.wires.ok.0) in
    let node : length m.graph.now.wires.items + length mid ≡ c.len.result + c.in_ok-place.place = let n = c.in_ok-place.ensures.place in omega arith in
    let N : List Gate → ℕ → Type 0 = λ xs n. NodeMade m old xs n f in
    subst (λ n. N c.push_gate.new.table.items n) node
    (subst (λ xs. N xs (length m.graph.now.wires.items + length mid)) (sym c.in_ok-place.ensures.table) made)

pub make_nodes-make_node-requires-2 : goal.make_nodes-make_node-requires-2
make_nodes-make_node-requires-2 t c =
    let ready = ready-stays c.args.making.now c.args.table.now.items c.make_node.new.table.items c.requires.ready c.in_ok-first.ensures.extends in
    search rules

pub make_nodes-returns : goal.make_nodes-returns
make_nodes-returns t c =
    let m = c.args.making.now in
    pair-made m c.args.table.now.items c.make_node.new.table.items c.make_node-2.new.table.items c.in_ok-first.first c.in_ok-second.second
    (meaning_of m c.args.left.now) (meaning_of m c.args.right.now) c.in_ok-first.ensures c.in_ok-second.ensures

pub make_gate-returns-in_ok-nodes-in-And : goal.make_gate-returns-in_ok-nodes-in-And
make_gate-returns-in_ok-nodes-in-And t c =
    let m = c.args.making.now in
    let nodes = c.in_ok-nodes-in-And.nodes in
    let made = and-formula m c.args.table.now.items c.make_nodes.new.table.items nodes.left nodes.right c.deref-in-And.result.now c.deref-in-And-2.result.now
    c.in-And.left.value c.in-And.right.value c.deref-in-And.ensures c.deref-in-And-2.ensures c.in_ok-nodes-in-And.ensures in
    rw c.in-And.is made

pub make_gate-returns-in_ok-nodes-in-Or : goal.make_gate-returns-in_ok-nodes-in-Or
make_gate-returns-in_ok-nodes-in-Or t c =
    let m = c.args.making.now in
    let nodes = c.in_ok-nodes-in-Or.nodes in
    let made = or-formula m c.args.table.now.items c.make_nodes-in-Or.new.table.items nodes.left nodes.right c.deref-in-Or.result.now c.deref-in-Or-2.result.now
    c.in-Or.left.value c.in-Or.right.value c.deref-in-Or.ensures c.deref-in-Or-2.ensures c.in_ok-nodes-in-Or.ensures in
    rw c.in-Or.is made

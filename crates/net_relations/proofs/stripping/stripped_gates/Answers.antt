use Rattle.std.proofs.Common.{◌≡◌, ◌<◌, ◌+◌, None, false, List, length, get_or, refl, sym, ap, subst, arith}
use Rattle.net_ir.specs.declared.netlist.Gate.{Gate}
use Rattle.net_ir.specs.declared.netlist.Op.TheVariants.{Const}
use Rattle.net_ir.specs.Runs.{netlist_of}
use Rattle.net_relations.specs.Implications.{AreStrippedTo, IsStripped}
use Rattle.net_relations.proofs.SmallerGates.{stripped_more, stripped_none}
use Rattle.net_relations.proofs.stripping.stripped_gates.Goals as goal

pub loop-gate-init : goal.loop-gate-init
loop-gate-init c =
    let net = netlist_of c.args.net.now in
    subst (AreStrippedTo net c.args.known.now 0) (sym c.new-gates.ensures.items) (stripped_none net c.args.known.now)

pub loop-gate-preserved : goal.loop-gate-preserved
loop-gate-preserved c =
    let net = netlist_of c.args.net.now in
    let items = c.deref-gate-items.ensures.value in
    let any : Gate = record { op = Const false; wire = None } in
    let new : Gate = record { op = c.stripped_op.result; wire = None } in
    let inside : c.loop-gate.gate-index < length net.gates = subst (λ xs. c.loop-gate.gate-index < length xs) items c.loop-gate-test.true in
    let here = subst (λ (gates : List Gate). IsStripped net c.args.known.now (get_or gates c.loop-gate.gate-index any).op c.stripped_op.result) items
    c.stripped_op.ensures in
    subst (AreStrippedTo net c.args.known.now (c.loop-gate.gate-index + 1)) (sym c.in_ok-push.ensures.items)
    (stripped_more net c.args.known.now c.loop-gate.gate-index c.loop-gate.gates.items any new c.loop-gate.invariant refl inside here)

pub returns : goal.returns
returns c =
    let net = netlist_of c.args.net.now in
    let all : c.loop-gate.gate-index ≡ length net.gates =
    omega (arith, c.loop-gate.auto.gate-index-end, c.loop-gate-test.false, ap length c.deref-gate-items.ensures.value) in
    subst (λ k. AreStrippedTo net c.args.known.now k c.loop-gate.gates.items) all c.loop-gate.invariant

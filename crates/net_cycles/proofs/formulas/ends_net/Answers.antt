use Rattle.std.proofs.Common.{◌≡◌, ◌+◌, ◌-◌, ◌<◌, ◌≤◌, length, sym, subst, arith, ap}
use Rattle.net_ir.specs.declared.netlist.Op.TheVariants as ops
use Rattle.net_unroll.specs.Copies.{Pushed, net_at}
use Rattle.net_cycles.specs.Bases.{RunSays}
use Rattle.net_cycles.proofs.Lowering.{run-begun, run-more}
use Rattle.net_cycles.proofs.formulas.ends_net.Goals as goal

pub loop-wire-init : goal.loop-wire-init
loop-wire-init c =
    let first = c.index.result.now.0 in
    let none : first - first ≡ 0 = omega arith in
    record {
      made = subst (λ k. RunSays c.args.nets.now c.args.gates.now c.args.gates.now first k c.args.nets.now.base.no.0) (sym none)
          (run-begun c.args.nets.now c.args.gates.now first c.requires.whole);
    }

pub loop-wire-preserved : goal.loop-wire-preserved
loop-wire-preserved c =
    let n = c.args.nets.now in
    let first = c.index.result.now.0 in
    let wire = c.loop-wire.wire in
    let from : first ≤ wire = omega arith in
    let at : first + (wire - first) ≡ wire = omega arith in
    let many = c.requires.whole.wires in
    let within = c.ends_from-count.ensures.within in
    let items = ap length c.wires.ensures in
    let low : first + (wire - first) < length n.wires.now = omega arith in
    let p = subst (λ k. Pushed c.loop-wire.gates c.push.new.self (ops.Or c.loop-wire.net (net_at n.wires.now k))) (sym at) c.in_ok-net.ensures.pushed in
    let made = run-more n c.args.gates.now c.loop-wire.gates c.push.new.self first (wire - first) c.loop-wire.net c.in_ok-net.net.0 c.requires.whole
    c.loop-wire.invariant.made low p c.in_ok-net.ensures.number c.in_ok-net.ensures.room in
    let more : wire - first + 1 ≡ wire + 1 - first = omega arith in
    record { made = subst (λ k. RunSays n c.args.gates.now c.push.new.self first k c.in_ok-net.net.0) more made }

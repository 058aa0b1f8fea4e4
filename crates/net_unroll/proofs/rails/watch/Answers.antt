use Rattle.std.proofs.Common.{◌≡◌, ◌<◌, length, take, slice_index_or, sym, subst, arith}
use Rattle.std.proofs.lemmas.List.{get_or_read, take_more}
use Rattle.net_ir.specs.declared.netlist.Op.{Op}
use Rattle.net_ir.specs.declared.netlist.Op.TheVariants as ops
use Rattle.net_unroll.specs.Copies.{Pushed, net_at}
use Rattle.net_unroll.specs.Rails.{Watches}
use Rattle.net_unroll.proofs.RailSteps.{watch-begun, watch-step}
use Rattle.net_unroll.proofs.Growth.{pushed-number}
use Rattle.net_unroll.proofs.rails.watch.Goals as goal

pub loop-node-init : goal.loop-node-init
loop-node-init c = record {
  made = watch-begun c.args.gates.now c.push.new.self c.args.rails.now c.args.watched.now c.in_ok-whole.whole c.requires.can c.in_ok-whole.ensures.pushed
      c.in_ok-whole.ensures.number c.in_ok-whole.ensures.room;
}

pub loop-node-preserved : goal.loop-node-preserved
loop-node-preserved c =
    let r = c.args.rails.now in
    let k = c.loop-node.node-index in
    let low : k < length c.args.watched.now = omega arith in
    let node = slice_index_or c.args.watched.now k 0 in
    let low_t = c.requires.can.sure_each k 0 low in
    let low_f = c.requires.can.excluded_each k 0 low in
    let x : c.index.result.now ≡ net_at r.sure.items node = get_or_read _ _ _ low_t c.index.ensures (record { 0 = 0 }) in
    let y : c.index-in-loop-node.result.now ≡ net_at r.excluded.items node = get_or_read _ _ _ low_f c.index-in-loop-node.ensures (record { 0 = 0 }) in
    let p = subst (λ (o : Op). Pushed c.loop-node.gates c.push-in-loop-node.new.self o) (λ i. ops.Or (x i) (y i)) c.in_ok-known.ensures.pushed in
    let made = watch-step c.args.gates.now c.loop-node.gates c.push-in-loop-node.new.self c.push-in-loop-node-2.new.self r c.args.watched.now
    (take k c.args.watched.now) node c.loop-node.whole c.in_ok-known.known c.in_ok-whole-2.whole c.requires.can c.loop-node.invariant.made low_t low_f p
    c.in_ok-known.ensures.number c.in_ok-whole-2.ensures.pushed c.in_ok-whole-2.ensures.number
    (let a = c.in_ok-whole-2.ensures.room in let e = pushed-number c.loop-node.gates c.push-in-loop-node.new.self _ c.in_ok-known.ensures.pushed in omega
    arith) in
    record {
      made = subst (λ done. Watches c.args.gates.now c.push-in-loop-node-2.new.self r done c.in_ok-whole-2.whole.0)
          (sym (take_more c.args.watched.now k 0 low)) made;
    }

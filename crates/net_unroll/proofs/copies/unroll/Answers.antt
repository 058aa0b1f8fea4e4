use Rattle.std.proofs.Common.{◌<◌, length, take, slice_index_or, slice_set, sym, ap, ◌∙◌, subst, arith}
use Rattle.std.proofs.lemmas.List.{take_more}
use Rattle.grc_ternary_gates.specs.Systems.{gate_at}
use Rattle.net_unroll.specs.Copies.{IsUnrolled, truth_op}
use Rattle.net_unroll.proofs.CopySteps.{begun-same, copies-step}
use Rattle.net_unroll.proofs.copies.unroll.Goals as goal

pub loop-node-init : goal.loop-node-init
loop-node-init c = record {
  made = begun-same c.args.gates.now c.args.system.now c.args.sources.now c.args.no c.args.schedule.now c.requires.can c.in_ok-copies.copies.items
      c.in_ok-copies.ensures;
}

pub loop-node-preserved : goal.loop-node-preserved
loop-node-preserved c =
    let k = c.loop-node.node-index in
    let low : k < length c.args.schedule.now = omega arith in
    let node = slice_index_or c.args.schedule.now k 0 in
    let made = copies-step c.args.gates.now c.args.system.now c.args.sources.now c.args.no c.args.schedule.now c.requires.can c.loop-node.gates
    c.push.new.self c.loop-node.copies.items (take k c.args.schedule.now) node c.in_ok-copy.copy c.truth_op-op.result c.loop-node.invariant.made
    (c.requires.can.nodes k 0 low) (c.truth_op-op.ensures ∙ ap (λ l. truth_op c.args.sources.now l (gate_at c.args.system.now node)) c.deref.ensures.value)
    c.in_ok-copy.ensures.pushed c.in_ok-copy.ensures.number c.in_ok-copy.ensures.room in
    record {
      made = subst
          (λ done. IsUnrolled c.args.gates.now c.push.new.self c.args.system.now c.args.sources.now (slice_set c.loop-node.copies.items node c.in_ok-copy.copy)
          done) (sym (take_more c.args.schedule.now k 0 low)) made;
    }

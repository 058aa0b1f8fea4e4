use Rattle.std.proofs.Common.{◌≡◌, ◌<◌, length, take, slice_index_or, slice_set, refl, sym, subst, arith}
use Rattle.std.proofs.lemmas.List.{take_more}
use Rattle.net_unroll.specs.Rails.{IsUnrolledTwice}
use Rattle.net_unroll.proofs.RailSteps.{begun-twice, rails-step}
use Rattle.std.specs.Vec.{with_item}
use Rattle.net_unroll.specs.declared.rails.Rails.{Rails}
use Rattle.net_unroll.proofs.Growth.{pushed-number}
use Rattle.net_unroll.proofs.rails.unroll_twice.Goals as goal

pub loop-node-init : goal.loop-node-init
loop-node-init c = record {
  made = begun-twice c.args.gates.now c.args.system.now c.args.sources.now c.args.no c.args.schedule.now c.requires.can
      (record { sure = c.in_ok-same_nets.field-0; excluded = c.in_ok-same_nets-2.field-0 }) c.in_ok-same_nets.ensures c.in_ok-same_nets-2.ensures;
}

pub loop-node-preserved : goal.loop-node-preserved
loop-node-preserved c =
    let k = c.loop-node.node-index in
    let low : k < length c.args.schedule.now = omega arith in
    let node = slice_index_or c.args.schedule.now k 0 in
    let t : Rails =
    record {
      sure = with_item c.loop-node.rails.sure node c.in_ok-sure.sure;
      excluded = with_item c.loop-node.rails.excluded node
          c.in_ok-excluded.excluded;
    } in
    let items : t.sure.items ≡ slice_set c.loop-node.rails.sure.items node c.in_ok-sure.sure = refl in
    let others : t.excluded.items ≡ slice_set c.loop-node.rails.excluded.items node c.in_ok-excluded.excluded = refl in
    let made = rails-step c.args.gates.now c.args.system.now c.args.sources.now c.args.no c.args.schedule.now c.requires.can c.loop-node.gates
    c.push.new.self c.push-in-loop-node.new.self c.loop-node.rails (take k c.args.schedule.now) node c.in_ok-sure.sure c.in_ok-excluded.excluded
    c.sure_op-where_true.result c.excluded_op-where_false.result c.loop-node.invariant.made (c.requires.can.nodes k 0 low)
    c.sure_op-where_true.ensures c.excluded_op-where_false.ensures c.in_ok-sure.ensures.pushed c.in_ok-sure.ensures.number c.in_ok-excluded.ensures.pushed
    c.in_ok-excluded.ensures.number
    (let a = c.in_ok-sure.ensures.room in let b = c.in_ok-excluded.ensures.room in let e = pushed-number c.loop-node.gates c.push.new.self
    c.sure_op-where_true.result c.in_ok-sure.ensures.pushed in omega arith) t items others in
    record {
      made = subst (λ done. IsUnrolledTwice c.args.gates.now c.push-in-loop-node.new.self c.args.system.now c.args.sources.now t done)
          (sym (take_more c.args.schedule.now k 0 low)) made;
    }

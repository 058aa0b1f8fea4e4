use Rattle.std.proofs.Common.{◌<◌, map, sym, subst, arith}
use Rattle.run_steps.specs.Slots.{slot_in}
use Rattle.csub_run.proofs.plan.push_assigns.Goals as goal

pub push_assign-requires : goal.push_assign-requires
push_assign-requires c =
    let keys = map (λ k. k.now) c.args.slots.now.keys in
    let item = c.assign-item.result in
    let low = c.requires.declared c.loop-assign.assign-index item (omega arith) in
    subst (λ a. slot_in keys a.to < c.loop-assign.plan.named) (sym c.assign-item.is) (omega (arith, low, c.loop-assign.invariant.names))

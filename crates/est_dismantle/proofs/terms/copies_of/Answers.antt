use Rattle.std.proofs.Common.{◌+◌, refl}
use Rattle.est_dismantle.specs.Boxes.{boxed_term}
use Rattle.est_dismantle.proofs.Lists.{times-pushed}
use Rattle.est_dismantle.proofs.terms.copies_of.Goals as goal

pub loop-preserved : goal.loop-preserved
loop-preserved c =
    times-pushed boxed_term _ _ _ c.loop.counter (c.loop.counter + 1) _ c.in_ok-push.ensures.items c.in_ok-boxed_copy.ensures c.loop.invariant refl

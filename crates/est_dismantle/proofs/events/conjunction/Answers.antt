use Rattle.std.proofs.Common.{[], ◌∷◌, ◌++◌, map, ◌∙◌, ap}
use Rattle.est_kernel.specs.Plain.{expression_of}
use Rattle.est_kernel.specs.Terms.{And, Tick}
use Rattle.est_dismantle.specs.Kernels.{nested}
use Rattle.est_dismantle.proofs.Lists.{nested-pop}
use Rattle.est_dismantle.proofs.events.conjunction.Goals as goal

pub loop-part-preserved : goal.loop-part-preserved
loop-part-preserved c =
    ap (λ t. nested And Tick (map expression_of c.pop-in-loop-part.new.self.items ++ t ∷ [])) c.in_ok-whole.ensures
    ∙ nested-pop expression_of And Tick c.loop-part.rest.items c.pop-in-loop-part.new.self.items c.in-Some-pop.part
    (expression_of c.loop-part.whole) c.in-Some-pop.ensures.items
    ∙ c.loop-part.invariant

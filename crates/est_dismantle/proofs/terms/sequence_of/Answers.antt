use Rattle.std.proofs.Common.{[], ◌∷◌, ◌++◌, map, ◌∙◌, ap}
use Rattle.est_dismantle.specs.Boxes.{boxed_term}
use Rattle.est_kernel.specs.Terms.{Seq, Nothing}
use Rattle.est_dismantle.specs.Kernels.{nested}
use Rattle.est_dismantle.proofs.Lists.{nested-pop}
use Rattle.est_dismantle.proofs.terms.sequence_of.Goals as goal

pub loop-part-preserved : goal.loop-part-preserved
loop-part-preserved c =
    ap (λ t. nested Seq Nothing (map boxed_term c.pop-in-loop-part.new.self.items ++ t ∷ [])) c.in_ok-whole.ensures
    ∙ nested-pop boxed_term Seq Nothing c.loop-part.rest.items c.pop-in-loop-part.new.self.items c.in-Some-pop.part
    (boxed_term c.loop-part.whole) c.in-Some-pop.ensures.items
    ∙ c.loop-part.invariant

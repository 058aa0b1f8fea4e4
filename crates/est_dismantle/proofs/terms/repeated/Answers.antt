use Rattle.std.proofs.Common.{◌+◌, ◌-◌, ◌≡◌, ◌∙◌, ap, arith, refl}
use Rattle.est_kernel.specs.Plain.{term_of}
use Rattle.est_dismantle.specs.Boxes.{boxed_term}
use Rattle.est_dismantle.specs.Kernels.{sequence, times}
use Rattle.est_dismantle.proofs.Lists.{times-pushed}
use Rattle.est_dismantle.proofs.terms.repeated.Goals as goal

pub returns : goal.returns
returns c =
    let one_more : c.args.count ≡ c.args.count - 1 + 1 = omega arith in
    c.in_ok-sequence_of.ensures ∙ ap sequence
    (times-pushed boxed_term _ _ _ (c.args.count - 1) c.args.count _ c.in_ok-push.ensures.items refl
    (c.in_ok-copies.ensures ∙ ap (λ p. times (c.args.count - 1) (term_of p)) c.deref.ensures) one_more)

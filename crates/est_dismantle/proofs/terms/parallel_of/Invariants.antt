use Rattle.std.proofs.Common.{◌≡◌, [], ◌∷◌, ◌++◌, map, vec_len}
use Rattle.est_dismantle.specs.Boxes.{boxed_term}
use Rattle.est_kernel.specs.Terms.{Par, Nothing}
use Rattle.est_dismantle.specs.Kernels.{nested}
use Rattle.est_dismantle.proofs.terms.parallel_of.Given as goal

abbrev pub invariant-loop-part : goal.invariant-loop-part
invariant-loop-part l =
    nested Par Nothing (map boxed_term l.rest.items ++ boxed_term l.whole ∷ []) ≡
    nested Par Nothing (map boxed_term l.initial.rest.items ++ boxed_term l.initial.whole ∷ [])

abbrev pub decreases-loop-part : goal.decreases-loop-part
decreases-loop-part l = vec_len l.rest

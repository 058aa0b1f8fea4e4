use Rattle.std.proofs.Common.{◌≡◌, [], ◌∷◌, ◌++◌, map, vec_len}
use Rattle.est_kernel.specs.Plain.{expression_of}
use Rattle.est_kernel.specs.Terms.{Or, Tick}
use Rattle.est_dismantle.specs.Kernels.{nested}
use Rattle.est_dismantle.proofs.events.disjunction.Given as goal

abbrev pub invariant-loop-part : goal.invariant-loop-part
invariant-loop-part l =
    nested Or Tick (map expression_of l.rest.items ++ expression_of l.whole ∷ []) ≡
    nested Or Tick (map expression_of l.initial.rest.items ++ expression_of l.initial.whole ∷ [])

abbrev pub decreases-loop-part : goal.decreases-loop-part
decreases-loop-part l = vec_len l.rest

use Rattle.std.proofs.Common.{◌≡◌, map}
use Rattle.est_kernel.specs.Plain.{term_of}
use Rattle.est_dismantle.specs.Boxes.{boxed_term}
use Rattle.est_dismantle.specs.Kernels.{times}
use Rattle.est_dismantle.proofs.terms.copies_of.Given as goal

abbrev pub invariant-loop : goal.invariant-loop
invariant-loop l = map boxed_term l.copies.items ≡ times l.counter (term_of l.part)

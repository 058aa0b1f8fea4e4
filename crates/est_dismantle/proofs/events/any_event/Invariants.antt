use Rattle.std.proofs.Common.{◌≡◌, map, take}
use Rattle.est_kernel.specs.Plain.{expression_of}
use Rattle.est_dismantle.specs.FlatNodes.{case_test}
use Rattle.est_dismantle.proofs.events.any_event.Given as goal

abbrev pub invariant-loop-case : goal.invariant-loop-case
invariant-loop-case l = map expression_of l.tests.items ≡ map case_test (take l.case-index l.cases)

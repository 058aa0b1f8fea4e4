use Rattle.std.proofs.Common.{◌≡◌, map, take}
use Rattle.est_kernel.specs.Plain.{expression_of}
use Rattle.est_dismantle.specs.FlatNodes.{event_test}
use Rattle.est_dismantle.proofs.events.+tests_of_events.Given as goal

abbrev pub invariant-tests_of-loop-part : goal.invariant-tests_of-loop-part
invariant-tests_of-loop-part l = map expression_of l.tests.items ≡ map event_test (take l.part-index l.parts)

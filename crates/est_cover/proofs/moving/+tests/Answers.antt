use Rattle.std.proofs.Common.{arith}
use Rattle.std.proofs.lemmas.Grind.{common_steps}
use Rattle.est_cover.proofs.moving.+tests.Goals as goal

pub moved_tests-loop-e-preserved : goal.moved_tests-loop-e-preserved
moved_tests-loop-e-preserved t c = grind (arith, common_steps)

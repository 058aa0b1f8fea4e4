use Rattle.std.proofs.Common.{◌≡◌, map, take}
use Rattle.est_ast.specs.FlatViews.{flat_expr_of}
use Rattle.est_cover.specs.Nodes.{test_moved}
use Rattle.est_cover.proofs.moving.+tests.Given as goal

abbrev pub invariant-moved_tests-loop-e : goal.invariant-moved_tests-loop-e
invariant-moved_tests-loop-e l = map flat_expr_of l.made.items ≡ map (test_moved l.portion) (take l.e-index l.parts)

use Rattle.std.proofs.Common.{◌≡◌, map, drop}
use Rattle.est_ast.specs.FlatViews.{flat_expr_of}
use Rattle.est_ast.specs.Trees.{exprs}
use Rattle.est_ast.specs.Views.{expr_of}
use Rattle.est_expand.specs.Tests.{tests}
use Rattle.est_expand.proofs.FoundLists.{exprs_behind}
use Rattle.est_expand.proofs.expressions.+tests.Given as goal

-- the tests that are left, behind those that were found, are all
abbrev pub invariant-flat_tests-loop-e : goal.invariant-flat_tests-loop-e
invariant-flat_tests-loop-e l =
    exprs_behind (map flat_expr_of l.found.items) (tests l.scope (exprs (map expr_of (drop l.e-index l.parts))))
    ≡ tests l.scope (exprs (map expr_of l.parts))

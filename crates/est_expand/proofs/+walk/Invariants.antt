use Rattle.std.proofs.Common.{◌≡◌, ◌*◌, ◌+◌, map, drop}
use Rattle.est_ast.specs.FlatViews.{flat_stmt_of, flat_case_of}
use Rattle.est_ast.specs.Trees.{stmts, cases}
use Rattle.est_ast.specs.Views.{stmt_of, case_of}
use Rattle.est_expand.specs.Flattening.{each, each_case}
use Rattle.est_expand.specs.Views.{around_of, inside_of, met_of}
use Rattle.est_expand.proofs.WalkSteps.{stmts_behind, cases_behind}
use Rattle.est_expand.proofs.+walk.Given as goal

-- Less room is less, and of the functions at one room those that call come after those that are called.

abbrev pub decreases-walk::walk : goal.decreases-walk::walk
decreases-walk::walk l = l.source.now.room * 8

abbrev pub decreases-walk::row : goal.decreases-walk::row
decreases-walk::row l = l.site.now.source.room * 8 + 7

abbrev pub decreases-walk::boxed : goal.decreases-walk::boxed
decreases-walk::boxed l = l.source.now.room * 8 + 3

abbrev pub decreases-walk::part : goal.decreases-walk::part
decreases-walk::part l = l.source.now.room * 8 + 4

abbrev pub decreases-walk::each : goal.decreases-walk::each
decreases-walk::each l = l.source.now.room * 8 + 4

abbrev pub decreases-walk::each_case : goal.decreases-walk::each_case
decreases-walk::each_case l = l.source.now.room * 8 + 5

abbrev pub decreases-walk::flat_case : goal.decreases-walk::flat_case
decreases-walk::flat_case l = l.source.now.room * 8 + 4

abbrev pub decreases-forms::flat_await : goal.decreases-forms::flat_await
decreases-forms::flat_await l = l.site.now.source.room * 8 + 6

abbrev pub decreases-forms::flat_await_case : goal.decreases-forms::flat_await_case
decreases-forms::flat_await_case l = l.site.now.source.room * 8 + 6

abbrev pub decreases-forms::flat_present : goal.decreases-forms::flat_present
decreases-forms::flat_present l = l.site.now.source.room * 8 + 6

abbrev pub decreases-forms::flat_present_case : goal.decreases-forms::flat_present_case
decreases-forms::flat_present_case l = l.site.now.source.room * 8 + 6

abbrev pub decreases-forms::flat_loop : goal.decreases-forms::flat_loop
decreases-forms::flat_loop l = l.site.now.source.room * 8 + 6

abbrev pub decreases-forms::flat_loop_each : goal.decreases-forms::flat_loop_each
decreases-forms::flat_loop_each l = l.site.now.source.room * 8 + 6

abbrev pub decreases-forms::flat_every : goal.decreases-forms::flat_every
decreases-forms::flat_every l = l.site.now.source.room * 8 + 6

abbrev pub decreases-forms::flat_repeat : goal.decreases-forms::flat_repeat
decreases-forms::flat_repeat l = l.site.now.source.room * 8 + 6

abbrev pub decreases-forms::flat_abort : goal.decreases-forms::flat_abort
decreases-forms::flat_abort l = l.site.now.source.room * 8 + 6

abbrev pub decreases-forms::flat_abort_case : goal.decreases-forms::flat_abort_case
decreases-forms::flat_abort_case l = l.site.now.source.room * 8 + 6

abbrev pub decreases-forms::flat_weak_abort : goal.decreases-forms::flat_weak_abort
decreases-forms::flat_weak_abort l = l.site.now.source.room * 8 + 6

abbrev pub decreases-forms::flat_suspend : goal.decreases-forms::flat_suspend
decreases-forms::flat_suspend l = l.site.now.source.room * 8 + 6

abbrev pub decreases-forms::flat_seq : goal.decreases-forms::flat_seq
decreases-forms::flat_seq l = l.site.now.source.room * 8 + 6

abbrev pub decreases-forms::flat_par : goal.decreases-forms::flat_par
decreases-forms::flat_par l = l.site.now.source.room * 8 + 6

abbrev pub decreases-binders::flat_trap : goal.decreases-binders::flat_trap
decreases-binders::flat_trap l = l.site.now.source.room * 8 + 6

abbrev pub decreases-binders::flat_signal : goal.decreases-binders::flat_signal
decreases-binders::flat_signal l = l.site.now.source.room * 8 + 6

abbrev pub decreases-binders::run : goal.decreases-binders::run
decreases-binders::run l = l.source.now.room * 8 + 6

abbrev pub decreases-binders::trapped : goal.decreases-binders::trapped
decreases-binders::trapped l = l.source.now.room * 8 + 4

abbrev pub decreases-binders::handler : goal.decreases-binders::handler
decreases-binders::handler l = l.source.now.room * 8 + 4

-- what is left, behind what was found, is all, and what stands around is as it was
abbrev pub invariant-walk::each-loop-p : goal.invariant-walk::each-loop-p
invariant-walk::each-loop-p l = record {
  kept : around_of l.around ≡ around_of l.fn.around;
  left : stmts_behind (map flat_stmt_of l.found.items) (each (inside_of l.source (around_of l.fn.around)) (stmts (map stmt_of (drop l.p-index l.parts)))
      (met_of l.met))
      ≡ each (inside_of l.source (around_of l.fn.around)) (stmts (map stmt_of l.parts)) (met_of l.fn.met);
}

abbrev pub invariant-walk::each_case-loop-case : goal.invariant-walk::each_case-loop-case
invariant-walk::each_case-loop-case l = record {
  kept : around_of l.around ≡ around_of l.fn.around;
  left : cases_behind (map flat_case_of l.found.items)
      (each_case l.fn.around.scope (inside_of l.source (around_of l.fn.around)) (cases (map case_of (drop l.case-index l.cases))) (met_of l.met))
      ≡ each_case l.fn.around.scope (inside_of l.source (around_of l.fn.around)) (cases (map case_of l.cases)) (met_of l.fn.met);
}

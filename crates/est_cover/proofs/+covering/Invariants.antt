use Rattle.std.proofs.Common.{◌≡◌, ◌+◌, ◌*◌, ◌++◌, map, drop, max}
use Rattle.est_ast.proofs.flat.FlatCase.TheLaws.{the_size as case_size}
use Rattle.est_ast.proofs.flat.FlatStmt.TheLaws.{the_size}
use Rattle.est_ast.specs.declared.flat.FlatForm.TheShapes.{weighed-FlatForm-Await-1, weighed-FlatForm-AwaitCase-0}
use Rattle.est_ast.specs.FlatViews.{flat_case_of, flat_stmt_of}
use Rattle.est_cover.specs.Nodes.{list_covered, list_points, choices_covered, choice_points}
use Rattle.est_cover.proofs.+covering.Given as goal

-- A part is less deep than what holds it, and of the functions at one depth those that call come after those that are called.

abbrev pub decreases-covering::cover : goal.decreases-covering::cover
decreases-covering::cover l = 8 * goal.size-covering::cover l

abbrev pub decreases-covering::cover_form : goal.decreases-covering::cover_form
decreases-covering::cover_form l = 8 * goal.size-covering::cover_form l

abbrev pub decreases-covering::inside : goal.decreases-covering::inside
decreases-covering::inside l = 8 * goal.size-covering::inside l + 1

abbrev pub decreases-covering::begun : goal.decreases-covering::begun
decreases-covering::begun l = 8 * goal.size-covering::begun l + 1

abbrev pub decreases-covering::branch : goal.decreases-covering::branch
decreases-covering::branch l = 8 * goal.size-covering::branch l + 2

abbrev pub decreases-covering::handler : goal.decreases-covering::handler
decreases-covering::handler l = 8 * goal.size-covering::handler l + 2

abbrev pub decreases-covering::parts_of : goal.decreases-covering::parts_of
decreases-covering::parts_of l = 8 * goal.size-covering::parts_of l + 2

abbrev pub decreases-covering::cases_of : goal.decreases-covering::cases_of
decreases-covering::cases_of l = 8 * goal.size-covering::cases_of l + 3

abbrev pub decreases-covering::case_of : goal.decreases-covering::case_of
decreases-covering::case_of l = 8 * goal.size-covering::case_of l + 2

abbrev pub decreases-forms::cover_await : goal.decreases-forms::cover_await
decreases-forms::cover_await l = 8 * goal.size-forms::cover_await l + 4

abbrev pub decreases-forms::cover_await_case : goal.decreases-forms::cover_await_case
decreases-forms::cover_await_case l = 8 * goal.size-forms::cover_await_case l + 4

abbrev pub decreases-forms::cover_loop : goal.decreases-forms::cover_loop
decreases-forms::cover_loop l = 8 * goal.size-forms::cover_loop l + 4

abbrev pub decreases-forms::cover_loop_each : goal.decreases-forms::cover_loop_each
decreases-forms::cover_loop_each l = 8 * goal.size-forms::cover_loop_each l + 4

abbrev pub decreases-forms::cover_every : goal.decreases-forms::cover_every
decreases-forms::cover_every l = 8 * goal.size-forms::cover_every l + 4

abbrev pub decreases-forms::cover_repeat : goal.decreases-forms::cover_repeat
decreases-forms::cover_repeat l = 8 * goal.size-forms::cover_repeat l + 4

abbrev pub decreases-forms::cover_weak_abort : goal.decreases-forms::cover_weak_abort
decreases-forms::cover_weak_abort l = 8 * goal.size-forms::cover_weak_abort l + 4

abbrev pub decreases-forms::cover_suspend : goal.decreases-forms::cover_suspend
decreases-forms::cover_suspend l = 8 * goal.size-forms::cover_suspend l + 4

abbrev pub decreases-forms::cover_signal : goal.decreases-forms::cover_signal
decreases-forms::cover_signal l = 8 * goal.size-forms::cover_signal l + 4

abbrev pub decreases-forms::cover_seq : goal.decreases-forms::cover_seq
decreases-forms::cover_seq l = 8 * goal.size-forms::cover_seq l + 4

abbrev pub decreases-forms::cover_par : goal.decreases-forms::cover_par
decreases-forms::cover_par l = 8 * goal.size-forms::cover_par l + 4

abbrev pub decreases-forms::cover_present : goal.decreases-forms::cover_present
decreases-forms::cover_present l = 8 * max (weighed-FlatForm-Await-1.weight _ the_size l.yes.now) (weighed-FlatForm-Await-1.weight _ the_size l.no.now) + 4

abbrev pub decreases-forms::cover_present_case : goal.decreases-forms::cover_present_case
decreases-forms::cover_present_case l =
    8 * max (weighed-FlatForm-AwaitCase-0.weight _ case_size l.cases.now) (weighed-FlatForm-Await-1.weight _ the_size l.no.now) + 4

abbrev pub decreases-forms::cover_abort : goal.decreases-forms::cover_abort
decreases-forms::cover_abort l = 8 * max (the_size l.body.now.value) (weighed-FlatForm-Await-1.weight _ the_size l.rest.now) + 4

abbrev pub decreases-forms::cover_abort_case : goal.decreases-forms::cover_abort_case
decreases-forms::cover_abort_case l = 8 * max (the_size l.body.now.value) (weighed-FlatForm-AwaitCase-0.weight _ case_size l.cases.now) + 4

abbrev pub decreases-forms::cover_trap : goal.decreases-forms::cover_trap
decreases-forms::cover_trap l = 8 * max (the_size l.body.now.value) (weighed-FlatForm-Await-1.weight _ the_size l.rest.now) + 4

abbrev pub invariant-covering::parts_of-loop-part : goal.invariant-covering::parts_of-loop-part
invariant-covering::parts_of-loop-part l = record {
  covers : map flat_stmt_of l.made.items ++ list_covered l.portion l.points.items (drop l.part-index l.parts)
      ≡ list_covered l.portion l.initial.points.items l.parts;
  points : list_points l.points.items (drop l.part-index l.parts) ≡ list_points l.initial.points.items l.parts;
}

abbrev pub invariant-covering::cases_of-loop-case : goal.invariant-covering::cases_of-loop-case
invariant-covering::cases_of-loop-case l = record {
  covers : map flat_case_of l.made.items ++ choices_covered l.portion l.at l.points.items (drop l.case-index l.cases)
      ≡ choices_covered l.portion l.at l.initial.points.items l.cases;
  points : choice_points l.at l.points.items (drop l.case-index l.cases) ≡ choice_points l.at l.initial.points.items l.cases;
}

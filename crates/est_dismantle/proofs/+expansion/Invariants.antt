use Rattle.std.proofs.Common.{◌≡◌, ◌+◌, ◌*◌, ◌++◌, map, drop, max}
use Rattle.est_ast.proofs.flat.FlatCase.TheLaws.{the_size as case_size}
use Rattle.est_ast.proofs.flat.FlatStmt.TheLaws.{the_size}
use Rattle.est_ast.specs.declared.flat.FlatForm.TheShapes.{weighed-FlatForm-Await-1, weighed-FlatForm-AwaitCase-0}
use Rattle.est_dismantle.specs.Boxes.{boxed_term}
use Rattle.est_dismantle.specs.Choices.{choice_of}
use Rattle.est_dismantle.specs.FlatNodes.{stmts_kernels, choices, stmts_new, cases_new}
use Rattle.est_dismantle.specs.TrapLists.{traps_of}
use Rattle.est_dismantle.proofs.+expansion.Given as goal

-- A part is less deep than what holds it, and of the functions at one depth those that call come after those that are called.

abbrev pub decreases-expansion::expand : goal.decreases-expansion::expand
decreases-expansion::expand l = 8 * goal.size-expansion::expand l

abbrev pub decreases-expansion::expand_form : goal.decreases-expansion::expand_form
decreases-expansion::expand_form l = 8 * goal.size-expansion::expand_form l

abbrev pub decreases-expansion::expand_part : goal.decreases-expansion::expand_part
decreases-expansion::expand_part l = 8 * goal.size-expansion::expand_part l + 2

abbrev pub decreases-expansion::expand_parts : goal.decreases-expansion::expand_parts
decreases-expansion::expand_parts l = 8 * goal.size-expansion::expand_parts l + 2

abbrev pub decreases-expansion::expand_cases : goal.decreases-expansion::expand_cases
decreases-expansion::expand_cases l = 8 * goal.size-expansion::expand_cases l + 3

abbrev pub decreases-expansion::expand_case : goal.decreases-expansion::expand_case
decreases-expansion::expand_case l = 8 * goal.size-expansion::expand_case l + 1

abbrev pub decreases-forms::expand_await : goal.decreases-forms::expand_await
decreases-forms::expand_await l = 8 * goal.size-forms::expand_await l + 4

abbrev pub decreases-forms::expand_await_case : goal.decreases-forms::expand_await_case
decreases-forms::expand_await_case l = 8 * goal.size-forms::expand_await_case l + 4

abbrev pub decreases-forms::expand_loop : goal.decreases-forms::expand_loop
decreases-forms::expand_loop l = 8 * goal.size-forms::expand_loop l + 4

abbrev pub decreases-forms::expand_loop_each : goal.decreases-forms::expand_loop_each
decreases-forms::expand_loop_each l = 8 * goal.size-forms::expand_loop_each l + 4

abbrev pub decreases-forms::expand_every : goal.decreases-forms::expand_every
decreases-forms::expand_every l = 8 * goal.size-forms::expand_every l + 4

abbrev pub decreases-forms::expand_repeat : goal.decreases-forms::expand_repeat
decreases-forms::expand_repeat l = 8 * goal.size-forms::expand_repeat l + 4

abbrev pub decreases-forms::expand_weak_abort : goal.decreases-forms::expand_weak_abort
decreases-forms::expand_weak_abort l = 8 * goal.size-forms::expand_weak_abort l + 4

abbrev pub decreases-forms::expand_suspend : goal.decreases-forms::expand_suspend
decreases-forms::expand_suspend l = 8 * goal.size-forms::expand_suspend l + 4

abbrev pub decreases-forms::expand_signal : goal.decreases-forms::expand_signal
decreases-forms::expand_signal l = 8 * goal.size-forms::expand_signal l + 4

abbrev pub decreases-forms::expand_seq : goal.decreases-forms::expand_seq
decreases-forms::expand_seq l = 8 * goal.size-forms::expand_seq l + 4

abbrev pub decreases-forms::expand_par : goal.decreases-forms::expand_par
decreases-forms::expand_par l = 8 * goal.size-forms::expand_par l + 4

abbrev pub decreases-forms::expand_present : goal.decreases-forms::expand_present
decreases-forms::expand_present l = 8 * max (weighed-FlatForm-Await-1.weight _ the_size l.yes.now) (weighed-FlatForm-Await-1.weight _ the_size l.no.now) + 4

abbrev pub decreases-forms::expand_present_case : goal.decreases-forms::expand_present_case
decreases-forms::expand_present_case l =
    8 * max (weighed-FlatForm-AwaitCase-0.weight _ case_size l.cases.now) (weighed-FlatForm-Await-1.weight _ the_size l.no.now) + 4

abbrev pub decreases-forms::expand_abort : goal.decreases-forms::expand_abort
decreases-forms::expand_abort l = 8 * max (the_size l.body.now.value) (weighed-FlatForm-Await-1.weight _ the_size l.rest.now) + 4

abbrev pub decreases-forms::expand_abort_case : goal.decreases-forms::expand_abort_case
decreases-forms::expand_abort_case l = 8 * max (the_size l.body.now.value) (weighed-FlatForm-AwaitCase-0.weight _ case_size l.cases.now) + 4

abbrev pub decreases-forms::expand_trap : goal.decreases-forms::expand_trap
decreases-forms::expand_trap l = 8 * max (the_size l.body.now.value) (weighed-FlatForm-Await-1.weight _ the_size l.handler.now) + 4

abbrev pub invariant-expansion::expand_parts-loop-part : goal.invariant-expansion::expand_parts-loop-part
invariant-expansion::expand_parts-loop-part l = record {
  terms : map boxed_term l.kernels.items ++ stmts_kernels (traps_of l.traps) l.next (drop l.part-index l.parts) ≡
      stmts_kernels (traps_of l.traps) l.initial.next l.parts;
  next : l.next + stmts_new (drop l.part-index l.parts) ≡ l.initial.next + stmts_new l.parts;
}

abbrev pub invariant-expansion::expand_cases-loop-case : goal.invariant-expansion::expand_cases-loop-case
invariant-expansion::expand_cases-loop-case l = record {
  choices : map choice_of l.found.items ++ choices (traps_of l.traps) l.next (drop l.case-index l.cases) ≡ choices (traps_of l.traps) l.initial.next l.cases;
  next : l.next + cases_new (drop l.case-index l.cases) ≡ l.initial.next + cases_new l.cases;
}

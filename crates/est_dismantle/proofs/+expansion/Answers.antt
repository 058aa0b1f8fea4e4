use Rattle.std.proofs.Common.{◌≡◌, ◌+◌, ◌*◌, ◌<◌, map, refl, sym, ◌∙◌, ap, arith, rules}
use Rattle.est_dismantle.specs.Boxes.{boxed_term}
use Rattle.est_kernel.specs.Terms as terms
use Rattle.est_ast.specs.FlatViews.{flat_delay_of}
use Rattle.est_ast.specs.declared.flat.FlatForm.TheVariants as forms
use Rattle.est_ast.specs.declared.flat.FlatCase.{out-FlatCase}
use Rattle.est_dismantle.specs.Choices.{choice_of, chosen_of}
use Rattle.est_dismantle.specs.FlatNodes.{event_test, any_event_test, stmt_traps, stmt_new, node_traps, node_new}
use Rattle.est_dismantle.specs.Kernels.{aborting, aborting_handled}
use Rattle.est_dismantle.specs.TrapLists.{traps_of}
use Rattle.est_dismantle.proofs.Exits.{traps-Source, traps-New, length-Source, length-New}
use Rattle.est_dismantle.proofs.KernelNodes.{case-missing, case-written, case-new_missing, case-new_written, put-Present, put-Abort, put-AbortCase, put-Trap}
use Rattle.est_dismantle.proofs.KernelNodes.{stmts-at, stmts-new_at, stmts-past, stmts-new_past, choices-at, cases-new_at, choices-past, cases-new_past}
use Rattle.est_dismantle.proofs.KernelNodes.{new-Repeat, new-Abort_written, new-AbortCase, new-Trap_written, traps-Repeat, traps-Abort_written, traps-AbortCase}
use Rattle.est_dismantle.proofs.KernelNodes.{traps-Trap_written}
use Rattle.est_dismantle.proofs.Lists.{joined-on, joined-end}
use denote.Param.Weighed.{most}
use Rattle.est_ast.proofs.flat.FlatCase.TheLaws.{the_size as case_size}
use Rattle.est_ast.proofs.flat.FlatStmt.TheLaws.{the_size}
use Rattle.est_ast.proofs.flat.FlatForm.TheLaws.{the_size as form_size}
use Rattle.est_dismantle.proofs.Depths.{deeper-form, deeper-stmts, deeper-cases, deeper-case}
use Rattle.est_dismantle.proofs.KernelNodes.{new-stmt, traps-stmt, case-traps_written, cases-traps_of, stmts-traps_of}
use Rattle.est_dismantle.proofs.+expansion.Goals as goal

-- ---- what stands in a statement has room for its traps and its numbers

pub expansion::expand-expand_form-requires : goal.expansion::expand-expand_form-requires
expansion::expand-expand_form-requires t c =
    let p = c.args.statement.now in
    let d : 8 * the_size p ≡ t = c.decreases in
    let f : 8 * form_size p.form < t = omega (arith, d, deeper-form p) in
    (f, (omega (arith, c.requires.room, traps-stmt p), omega (arith, c.requires.numbers, new-stmt p)))

pub expansion::expand_case-expand-requires : goal.expansion::expand_case-expand-requires
expansion::expand_case-expand-requires t c =
    let x = c.args.case.now in let p = c.in-Some.statement in
    let d : 8 * case_size x + 1 ≡ t = c.decreases in
    let f : 8 * the_size p < t = omega (arith, d, deeper-case x p c.in-Some.is) in
    (f, (omega (arith, c.requires.room, case-traps_written x p c.in-Some.is), omega (arith, c.requires.numbers, case-new_written x p c.in-Some.is)))

pub expansion::expand_cases-expand_case-requires : goal.expansion::expand_cases-expand_case-requires
expansion::expand_cases-expand_case-requires t c =
    let i = c.loop-case.case-index in let l = c.args.cases.now in let x = c.case-item.result in
    let d : 8 * most case_size l + 3 ≡ t = c.decreases in
    let f : 8 * case_size x + 1 < t = omega (arith, d, deeper-cases l i x (omega arith) c.case-item.is) in (
      f,
      (
        omega (arith, c.requires.room, cases-traps_of l i x (omega arith) c.case-item.is),
        omega (arith, c.requires.numbers, cases-new_at l i x (omega arith) c.case-item.is, c.loop-case.invariant.next),
      ),
    )

pub expansion::expand_parts-expand-requires : goal.expansion::expand_parts-expand-requires
expansion::expand_parts-expand-requires t c =
    let i = c.loop-part.part-index in let l = c.args.parts.now in let x = c.part-item.result in
    let d : 8 * most the_size l + 2 ≡ t = c.decreases in
    let f : 8 * the_size x < t = omega (arith, d, deeper-stmts l i x (omega arith) c.part-item.is) in (
      f,
      (
        omega (arith, c.requires.room, stmts-traps_of l i x (omega arith) c.part-item.is),
        omega (arith, c.requires.numbers, stmts-new_at l i x (omega arith) c.part-item.is, c.loop-part.invariant.next),
      ),
    )

pub forms::expand_repeat-expand-requires : goal.forms::expand_repeat-expand-requires
forms::expand_repeat-expand-requires t c =
    let n = c.args.count in let s = c.args.place in let p = c.args.body.now in (
      search rules,
      (
        omega (arith, c.requires.room, traps-Repeat n s p, ap stmt_traps c.deref.ensures),
        omega (arith, c.requires.numbers, new-Repeat n s p, ap stmt_new c.deref.ensures),
      ),
    )

pub forms::expand_abort-expand-requires-in-Some : goal.forms::expand_abort-expand-requires-in-Some
forms::expand_abort-expand-requires-in-Some t c =
    let p = c.args.body.now in let d = c.args.delay.now in
    let traps = ap (λ q. node_traps (forms.Abort p d q)) c.in-Some.is ∙ traps-Abort_written p d c.in-Some.rest in
    let new = ap (λ q. node_new (forms.Abort p d q)) c.in-Some.is ∙ new-Abort_written p d c.in-Some.rest in (
      search rules,
      (
        omega (arith, c.requires.room, traps, length-New, ap stmt_traps c.deref-in-Some.ensures),
        omega (arith, c.requires.numbers, new, c.new_signal-signal.ensures.next, ap stmt_new c.deref-in-Some.ensures),
      ),
    )

pub forms::expand_abort_case-expand-requires : goal.forms::expand_abort_case-expand-requires
forms::expand_abort_case-expand-requires t c =
    let p = c.args.body.now in let v = c.args.cases.now in (
      search rules,
      (
        omega (arith, c.requires.room, traps-AbortCase p v, length-New, ap stmt_traps c.deref.ensures),
        omega (arith, c.requires.numbers, new-AbortCase p v, ap stmt_new c.deref.ensures),
      ),
    )

pub forms::expand_trap-expand-requires-in-Some : goal.forms::expand_trap-expand-requires-in-Some
forms::expand_trap-expand-requires-in-Some t c =
    let p = c.args.body.now in
    let traps = ap (λ q. node_traps (forms.Trap p q)) c.in-Some.is ∙ traps-Trap_written p c.in-Some.handler in
    let new = ap (λ q. node_new (forms.Trap p q)) c.in-Some.is ∙ new-Trap_written p c.in-Some.handler in (
      search rules,
      (
        omega (arith, c.requires.room, traps, length-New, length-Source, ap stmt_traps c.deref-in-Some.ensures),
        omega (arith, c.requires.numbers, new, ap stmt_new c.deref-in-Some.ensures),
      ),
    )

-- ---- cases

pub expansion::expand_case-returns-in_ok-body-in-None-clause-choice : goal.expansion::expand_case-returns-in_ok-body-in-None-clause-choice
expansion::expand_case-returns-in_ok-body-in-None-clause-choice t c =
    ap (λ e. (e, boxed_term c.in_ok-body-in-None.body)) c.in_ok-event.ensures
    ∙ ap (λ p. (event_test (out-FlatCase c.args.case.now).event, p)) c.in_ok-body-in-None.ensures
    ∙ sym (case-missing (traps_of c.args.traps.now) c.args.next.now c.args.case.now c.in-None.is)

pub expansion::expand_case-returns-in_ok-body-in-None-clause-next : goal.expansion::expand_case-returns-in_ok-body-in-None-clause-next
expansion::expand_case-returns-in_ok-body-in-None-clause-next t c = omega (arith, case-new_missing c.args.case.now c.in-None.is)

pub expansion::expand_case-returns-in_ok-body-in-Some-clause-choice : goal.expansion::expand_case-returns-in_ok-body-in-Some-clause-choice
expansion::expand_case-returns-in_ok-body-in-Some-clause-choice t c =
    ap (λ e. (e, boxed_term c.in_ok-body-in-Some.body)) c.in_ok-event.ensures
    ∙ ap (λ p. (event_test (out-FlatCase c.args.case.now).event, p)) c.in_ok-body-in-Some.ensures.term
    ∙ sym (case-written (traps_of c.args.traps.now) c.args.next.now c.args.case.now c.in-Some.statement c.in-Some.is)

pub expansion::expand_case-returns-in_ok-body-in-Some-clause-next : goal.expansion::expand_case-returns-in_ok-body-in-Some-clause-next
expansion::expand_case-returns-in_ok-body-in-Some-clause-next t c =
    omega (arith, case-new_written c.args.case.now c.in-Some.statement c.in-Some.is, c.in_ok-body-in-Some.ensures.next)

pub expansion::expand_cases-loop-case-preserved : goal.expansion::expand_cases-loop-case-preserved
expansion::expand_cases-loop-case-preserved t c =
    let i = c.loop-case.case-index in let l = c.args.cases.now in let x = c.case-item.result in
    record {
      choices = joined-on choice_of _ _ _ _ _ _ _ c.in_ok-push.ensures.items c.in_ok-expand_case.ensures.choice
          (choices-at (traps_of c.args.traps.now) c.loop-case.next c.expand_case.new.next l i x (omega arith) c.case-item.is c.in_ok-expand_case.ensures.next)
          c.loop-case.invariant.choices;
      next = omega (arith, cases-new_at l i x (omega arith) c.case-item.is, c.in_ok-expand_case.ensures.next, c.loop-case.invariant.next);
    }

pub expansion::expand_cases-returns-clause-choices : goal.expansion::expand_cases-returns-clause-choices
expansion::expand_cases-returns-clause-choices t c =
    joined-end _ _ _ (choices-past (traps_of c.args.traps.now) c.loop-case.next c.args.cases.now c.loop-case.case-index (omega arith))
    c.loop-case.invariant.choices

pub expansion::expand_cases-returns-clause-next : goal.expansion::expand_cases-returns-clause-next
expansion::expand_cases-returns-clause-next t c =
    omega (arith, cases-new_past c.args.cases.now c.loop-case.case-index (omega arith), c.loop-case.invariant.next)

pub expansion::expand_parts-loop-part-preserved : goal.expansion::expand_parts-loop-part-preserved
expansion::expand_parts-loop-part-preserved t c =
    let i = c.loop-part.part-index in let l = c.args.parts.now in let x = c.part-item.result in
    record {
      terms = joined-on boxed_term _ _ _ _ _ _ _ c.in_ok-push.ensures.items c.in_ok-expand.ensures.term
          (stmts-at (traps_of c.args.traps.now) c.loop-part.next c.expand.new.next l i x (omega arith) c.part-item.is c.in_ok-expand.ensures.next)
          c.loop-part.invariant.terms;
      next = omega (arith, stmts-new_at l i x (omega arith) c.part-item.is, c.in_ok-expand.ensures.next, c.loop-part.invariant.next);
    }

pub expansion::expand_parts-returns-clause-terms : goal.expansion::expand_parts-returns-clause-terms
expansion::expand_parts-returns-clause-terms t c =
    joined-end _ _ _ (stmts-past (traps_of c.args.traps.now) c.loop-part.next c.args.parts.now c.loop-part.part-index (omega arith)) c.loop-part.invariant.terms

pub expansion::expand_parts-returns-clause-next : goal.expansion::expand_parts-returns-clause-next
expansion::expand_parts-returns-clause-next t c =
    omega (arith, stmts-new_past c.args.parts.now c.loop-part.part-index (omega arith), c.loop-part.invariant.next)

pub forms::expand_present-returns-clause-term : goal.forms::expand_present-returns-clause-term
forms::expand_present-returns-clause-term t c = λ at.
    put-Present (traps_of c.args.traps.now) c.args.next.now c.expand_part.new.next at _ c.args.test.now c.args.yes.now c.args.no.now
    (event_test c.args.test.now) (boxed_term c.in_ok-yes.yes) (boxed_term c.in_ok-no.no) (boxed_term c.in_ok-choice_by.field-0)
    refl refl c.in_ok-yes.ensures.term c.in_ok-yes.ensures.next c.in_ok-no.ensures.term c.in_ok-choice_by.ensures

pub forms::expand_abort-returns-in_ok-handled_abortion-in-Some-clause-term : goal.forms::expand_abort-returns-in_ok-handled_abortion-in-Some-clause-term
forms::expand_abort-returns-in_ok-handled_abortion-in-Some-clause-term t c =
    put-Abort (traps_of c.args.traps.now) _ _ c.args.next.now _ _ c.args.at _ c.args.body.now c.in-Some.rest c.args.delay.now c.args.rest.now
    _ _ _
    (boxed_term c.in_ok-body-in-Some.body) (boxed_term c.in_ok-rest-in-Some.rest)
    (aborting_handled c.args.at (flat_delay_of c.args.delay.now) c.new_signal-signal.result.0 (boxed_term c.in_ok-body-in-Some.body))
    (boxed_term c.in_ok-handled_abortion-in-Some.field-0)
    c.in_ok-body-in-Some.ensures.term c.in_ok-rest-in-Some.ensures.term refl c.in_ok-handled_abortion-in-Some.ensures
    (traps-New _) (traps-New _) refl c.in-Some.is c.deref-in-Some.ensures c.deref-in-Some-2.ensures
    c.new_signal-signal.ensures.signal c.new_signal-signal.ensures.next c.in_ok-body-in-Some.ensures.next

pub forms::expand_abort_case-returns-clause-term : goal.forms::expand_abort_case-returns-clause-term
forms::expand_abort_case-returns-clause-term t c =
    let found = map choice_of c.in_ok-choices.choices.items in
    let any = any_event_test c.as_slice-2.result.now in
    let body = boxed_term c.in_ok-body.body in
    put-AbortCase (traps_of c.args.traps.now) _ _ c.args.next.now _ c.args.at _ c.args.body.now c.args.cases.now _ _ c.as_slice-2.result.now found any
    body (chosen_of found terms.Nothing) (aborting c.args.at any 3 body) (boxed_term c.in_ok-aborting_cases.field-0)
    c.in_ok-body.ensures.term c.in_ok-choices.ensures.choices refl refl refl c.in_ok-aborting_cases.ensures
    (traps-New _) (traps-New _) refl c.deref.ensures c.as_slice.ensures.value c.as_slice-2.ensures.value c.in_ok-body.ensures.next

pub forms::expand_trap-returns-in_ok-handled_trap-in-Some-clause-term : goal.forms::expand_trap-returns-in_ok-handled_trap-in-Some-clause-term
forms::expand_trap-returns-in_ok-handled_trap-in-Some-clause-term t c = λ at.
    put-Trap (traps_of c.args.traps.now) _ _ c.args.next.now _ at _ c.args.body.now c.in-Some.handler c.args.handler.now _ _
    (boxed_term c.in_ok-body-in-Some.body) (boxed_term c.in_ok-rest-in-Some.rest) (terms.Seq (boxed_term c.in_ok-body-in-Some.body) (terms.Exit 3))
    (boxed_term c.in_ok-handled_trap-in-Some.field-0)
    c.in_ok-body-in-Some.ensures.term c.in_ok-rest-in-Some.ensures.term refl c.in_ok-handled_trap-in-Some.ensures
    (traps-New _) (traps-Source _) refl c.in-Some.is c.deref-in-Some.ensures c.deref-in-Some-2.ensures c.in_ok-body-in-Some.ensures.next

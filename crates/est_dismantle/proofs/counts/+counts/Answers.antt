use Rattle.std.proofs.Common.{sym, ◌∙◌, ◌+◌, ap, arith, drop}
use Rattle.std.specs.Option.{option_or}
use Rattle.est_dismantle.specs.FlatNodes.{bad_of_stmts, bad_of_cases}
use Rattle.est_dismantle.proofs.BadCounts.{or-none, or-assoc, bad-case_missing, bad-case_written, bad-stmts_at, bad-stmts_past, bad-cases_at, bad-cases_past}
use Rattle.est_dismantle.proofs.counts.+counts.Goals as goal

pub first_bad_in_case-returns-in-None : goal.first_bad_in_case-returns-in-None
first_bad_in_case-returns-in-None t c = sym (bad-case_missing c.args.case.now c.in-None.is)

pub first_bad_in_case-returns-in-Some : goal.first_bad_in_case-returns-in-Some
first_bad_in_case-returns-in-Some t c = c.first_bad.ensures ∙ sym (bad-case_written c.args.case.now c.in-Some.statement c.in-Some.is)

pub first_bad_in_parts-loop-part-preserved : goal.first_bad_in_parts-loop-part-preserved
first_bad_in_parts-loop-part-preserved t c =
    let left = bad_of_stmts (drop (c.loop-part.part-index + 1) c.args.parts.now) in
    ap (λ o. option_or o left) (c.or-found.ensures ∙ ap (option_or c.loop-part.found) c.first_bad.ensures) ∙ or-assoc c.loop-part.found _ left
    ∙ ap (option_or c.loop-part.found) (sym (bad-stmts_at c.args.parts.now c.loop-part.part-index c.part-item.result (omega arith) c.part-item.is))
    ∙ c.loop-part.invariant

pub first_bad_in_parts-returns : goal.first_bad_in_parts-returns
first_bad_in_parts-returns t c =
    sym (or-none c.loop-part.found) ∙ ap (option_or c.loop-part.found) (sym (bad-stmts_past c.args.parts.now c.loop-part.part-index (omega arith)))
    ∙ c.loop-part.invariant

pub first_bad_in_cases-loop-case-preserved : goal.first_bad_in_cases-loop-case-preserved
first_bad_in_cases-loop-case-preserved t c =
    let left = bad_of_cases (drop (c.loop-case.case-index + 1) c.args.cases.now) in
    ap (λ o. option_or o left) (c.or-found.ensures ∙ ap (option_or c.loop-case.found) c.first_bad_in_case.ensures) ∙ or-assoc c.loop-case.found _ left
    ∙ ap (option_or c.loop-case.found) (sym (bad-cases_at c.args.cases.now c.loop-case.case-index c.case-item.result (omega arith) c.case-item.is))
    ∙ c.loop-case.invariant

pub first_bad_in_cases-returns : goal.first_bad_in_cases-returns
first_bad_in_cases-returns t c =
    sym (or-none c.loop-case.found) ∙ ap (option_or c.loop-case.found) (sym (bad-cases_past c.args.cases.now c.loop-case.case-index (omega arith)))
    ∙ c.loop-case.invariant

use Rattle.std.proofs.Common.{◌≡◌, ◌+◌, ◌*◌, ◌<◌, map, ap, ◌∙◌, arith}
use Rattle.std.proofs.lemmas.List.{map-append}
use Rattle.est_ast.specs.FlatViews.{flat_stmt_of, flat_case_of}
use Rattle.est_cover.proofs.Rows.{list-step, list-points_step, list-end, list-points_end}
use Rattle.est_cover.proofs.Rows.{choices-step, choice-points_step, choices-end, choice-points_end, covers-present_case}
use denote.Param.Weighed.{most}
use Rattle.est_ast.proofs.flat.FlatCase.TheLaws.{the_size as case_size}
use Rattle.est_ast.proofs.flat.FlatForm.TheLaws.{the_size as form_size}
use Rattle.est_ast.proofs.flat.FlatStmt.TheLaws.{the_size}
use Rattle.est_cover.proofs.Depths.{form-falls, stmts-fall, cases-fall, case-falls}
use Rattle.est_cover.proofs.+covering.Goals as goal

-- ---- what is in a statement is less deep

pub covering::cover-cover_form-requires : goal.covering::cover-cover_form-requires
covering::cover-cover_form-requires t c =
    let p = c.args.statement.now in
    let d : 8 * the_size p ≡ t = c.decreases in
    let f : 8 * form_size p.form < t = omega (arith, d, form-falls p) in (f, tt)

pub covering::parts_of-cover-requires : goal.covering::parts_of-cover-requires
covering::parts_of-cover-requires t c =
    let i = c.loop-part.part-index in let l = c.args.parts.now in let x = c.part-item.result in
    let d : 8 * most the_size l + 2 ≡ t = c.decreases in
    let f : 8 * the_size x < t = omega (arith, d, stmts-fall l i x (omega arith) c.part-item.is) in (f, tt)

pub covering::cases_of-case_of-requires : goal.covering::cases_of-case_of-requires
covering::cases_of-case_of-requires t c =
    let i = c.loop-case.case-index in let l = c.args.cases.now in let x = c.case-item.result in
    let d : 8 * most case_size l + 3 ≡ t = c.decreases in
    let f : 8 * case_size x + 2 < t = omega (arith, d, cases-fall l i x (omega arith) c.case-item.is) in (f, tt)

pub covering::case_of-begun-requires : goal.covering::case_of-begun-requires
covering::case_of-begun-requires t c =
    let x = c.args.case.now in let p = c.in-Some.body in
    let d : 8 * case_size x + 2 ≡ t = c.decreases in
    let f : 8 * the_size p + 1 < t = omega (arith, d, case-falls x p c.in-Some.is) in (f, tt)

-- ---- made parts

pub forms::cover_present_case-returns-clause-covers : goal.forms::cover_present_case-returns-clause-covers
forms::cover_present_case-returns-clause-covers t c =
    covers-present_case c.args.portion c.args.points.now.items c.cases_of.new.points.items c.args.at _ c.args.cases.now c.in_ok-cases.cases
    c.args.no.now c.in_ok-no.no c.as_slice.ensures.value c.in_ok-cases.ensures.covers c.in_ok-cases.ensures.points c.in_ok-no.ensures.covers

-- ---- lists

pub covering::parts_of-loop-part-preserved : goal.covering::parts_of-loop-part-preserved
covering::parts_of-loop-part-preserved t c =
    let i = c.loop-part.part-index in let l = c.args.parts.now in let x = c.part-item.result in
    let grown = ap (map flat_stmt_of) c.in_ok-push.ensures.items ∙ map-append _ _ _ in
    record {
      covers = list-step c.args.portion c.loop-part.points.items c.cover.new.points.items l i x (map flat_stmt_of c.loop-part.made.items) _ _ _
          (omega arith) c.part-item.is c.in_ok-cover.ensures.points c.in_ok-cover.ensures.covers grown c.loop-part.invariant.covers;
      points = list-points_step c.loop-part.points.items c.cover.new.points.items _ l i x (omega arith) c.part-item.is c.in_ok-cover.ensures.points
          c.loop-part.invariant.points;
    }

pub covering::parts_of-returns-clause-covers : goal.covering::parts_of-returns-clause-covers
covering::parts_of-returns-clause-covers t c =
    list-end c.args.portion c.loop-part.points.items c.args.parts.now c.loop-part.part-index _ _ (omega arith) c.loop-part.invariant.covers

pub covering::parts_of-returns-clause-points : goal.covering::parts_of-returns-clause-points
covering::parts_of-returns-clause-points t c =
    list-points_end c.loop-part.points.items _ c.args.parts.now c.loop-part.part-index (omega arith) c.loop-part.invariant.points

pub covering::cases_of-loop-case-preserved : goal.covering::cases_of-loop-case-preserved
covering::cases_of-loop-case-preserved t c =
    let i = c.loop-case.case-index in let l = c.args.cases.now in let x = c.case-item.result in
    let grown = ap (map flat_case_of) c.in_ok-push.ensures.items ∙ map-append _ _ _ in
    record {
      covers = choices-step c.args.portion c.args.at c.loop-case.points.items c.case_of.new.points.items l i x (map flat_case_of c.loop-case.made.items)
          _ _ _ (omega arith) c.case-item.is c.in_ok-case_of.ensures.points c.in_ok-case_of.ensures.covers grown c.loop-case.invariant.covers;
      points = choice-points_step c.args.at c.loop-case.points.items c.case_of.new.points.items _ l i x (omega arith) c.case-item.is
          c.in_ok-case_of.ensures.points c.loop-case.invariant.points;
    }

pub covering::cases_of-returns-clause-covers : goal.covering::cases_of-returns-clause-covers
covering::cases_of-returns-clause-covers t c =
    choices-end c.args.portion c.args.at c.loop-case.points.items c.args.cases.now c.loop-case.case-index _ _ (omega arith) c.loop-case.invariant.covers

pub covering::cases_of-returns-clause-points : goal.covering::cases_of-returns-clause-points
covering::cases_of-returns-clause-points t c =
    choice-points_end c.args.at c.loop-case.points.items _ c.args.cases.now c.loop-case.case-index (omega arith) c.loop-case.invariant.points

-- Inner: what is in a flat statement is less deep, by the measure that the walk falls in.
use Rattle.std.proofs.Common.{◌≡◌, ℕ, ◌+◌, ◌*◌, ◌<◌, zero, suc, List, [], ◌∷◌, length, get_or, Some, ap, arith}
use denote.Hole.Weighs.{depth-Weighs}
use denote.Param.Weighed.{most}
use Rattle.est_ast.proofs.flat.FlatCase.TheLaws.{the_size as case_size}
use Rattle.est_ast.proofs.flat.FlatForm.TheLaws.{the_size as form_size}
use Rattle.est_ast.proofs.flat.FlatStmt.TheLaws.{the_size}
use Rattle.est_ast.specs.declared.flat.FlatCase.{FlatCase, FlatCase', FlatCase-body-None', FlatCase-body-Some', out-FlatCase}
use Rattle.est_ast.specs.declared.flat.FlatForm.TheBlock.{the_depth, the_members, the_sigs, the_carrier, member-FlatStmt, member-FlatCase}
use Rattle.est_ast.specs.declared.flat.FlatForm.TheBlock.{weighs-FlatStmt, weighs-FlatCase}
use Rattle.est_ast.specs.declared.flat.FlatStmt.{FlatStmt}
use Rattle.est_cover.proofs.Rows.{held-ap, none-held}

pub form-falls : (p : FlatStmt) → 8 * form_size p.form < 8 * the_size p
unfolding the_depth denote.Hole.Carrier.out
form-falls p = let d = depth-Weighs the_members the_sigs the_carrier member-FlatStmt weighs-FlatStmt p in omega (arith, d)

pub stmts-fall : (l : List FlatStmt) (i : ℕ) (p : FlatStmt) → i < length l → p ≡ get_or l i p → 8 * the_size p < 8 * most the_size l + 2
stmts-fall [] i p h is = absurd (omega (arith, h))
stmts-fall (q ∷ l) zero p h is = omega (arith, ap the_size is)
stmts-fall (q ∷ l) (suc i) p h is = omega (arith, stmts-fall l i p (omega (arith, h)) is)

pub cases-fall : (l : List FlatCase) (i : ℕ) (c : FlatCase) → i < length l → c ≡ get_or l i c → 8 * case_size c + 2 < 8 * most case_size l + 3
cases-fall [] i c h is = absurd (omega (arith, h))
cases-fall (d ∷ l) zero c h is = omega (arith, ap case_size is)
cases-fall (d ∷ l) (suc i) c h is = omega (arith, cases-fall l i c (omega (arith, h)) is)

pub case-falls : (c : FlatCase) (p : FlatStmt) → (out-FlatCase c).body ≡ Some p → 8 * the_size p + 1 < 8 * case_size c + 2
unfolding the_depth out-FlatCase denote.Hole.Carrier.out
case-falls (FlatCase' event FlatCase-body-None') p h = absurd (none-held p h)
case-falls (FlatCase' event (FlatCase-body-Some' span form)) p h =
    let e = held-ap the_size (record { span = span; form = form }) p h in
    let d = depth-Weighs the_members the_sigs the_carrier member-FlatCase weighs-FlatCase (FlatCase' event (FlatCase-body-Some' span form)) in
    omega (arith, e, d)

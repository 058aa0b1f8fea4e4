-- Inner: what stands in a flat statement is less deep, by the depth that a recursion falls in.
use Rattle.std.proofs.Common.{◌≡◌, ℕ, ◌<◌, ◌≤◌, zero, suc, List, [], ◌∷◌, length, get_or, Some, ap, arith}
use denote.Hole.Weighs.{depth-Weighs}
use denote.Param.Weighed.{most}
use Rattle.est_ast.proofs.flat.FlatCase.TheLaws.{the_size as case_size}
use Rattle.est_ast.proofs.flat.FlatForm.TheLaws.{the_size as form_size}
use Rattle.est_ast.proofs.flat.FlatStmt.TheLaws.{the_size}
use Rattle.est_ast.specs.declared.flat.FlatCase.{FlatCase, FlatCase', FlatCase-body-None', FlatCase-body-Some', out-FlatCase}
use Rattle.est_ast.specs.declared.flat.FlatForm.TheBlock.{the_depth, the_members, the_sigs, the_carrier, member-FlatStmt, member-FlatCase}
use Rattle.est_ast.specs.declared.flat.FlatForm.TheBlock.{weighs-FlatStmt, weighs-FlatCase}
use Rattle.est_ast.specs.declared.flat.FlatStmt.{FlatStmt}
use Rattle.est_dismantle.proofs.Found.{none-some, some-same}

pub deeper-form : (p : FlatStmt) → form_size p.form < the_size p
unfolding the_depth denote.Hole.Carrier.out
deeper-form p = let d = depth-Weighs the_members the_sigs the_carrier member-FlatStmt weighs-FlatStmt p in omega (arith, d)

pub deeper-stmts : (l : List FlatStmt) (i : ℕ) (p : FlatStmt) → i < length l → p ≡ get_or l i p → the_size p ≤ most the_size l
deeper-stmts [] i p h is = absurd (omega (arith, h))
deeper-stmts (q ∷ l) zero p h is = omega (arith, ap the_size is)
deeper-stmts (q ∷ l) (suc i) p h is = omega (arith, deeper-stmts l i p (omega (arith, h)) is)

pub deeper-cases : (l : List FlatCase) (i : ℕ) (c : FlatCase) → i < length l → c ≡ get_or l i c → case_size c ≤ most case_size l
deeper-cases [] i c h is = absurd (omega (arith, h))
deeper-cases (d ∷ l) zero c h is = omega (arith, ap case_size is)
deeper-cases (d ∷ l) (suc i) c h is = omega (arith, deeper-cases l i c (omega (arith, h)) is)

pub deeper-case : (c : FlatCase) (p : FlatStmt) → (out-FlatCase c).body ≡ Some p → the_size p ≤ case_size c
unfolding the_depth out-FlatCase denote.Hole.Carrier.out
deeper-case (FlatCase' event FlatCase-body-None') p h = absurd (none-some p h)
deeper-case (FlatCase' event (FlatCase-body-Some' span form)) p h =
    let e = ap the_size (some-same (record { span = span; form = form }) p h) in
    let d = depth-Weighs the_members the_sigs the_carrier member-FlatCase weighs-FlatCase (FlatCase' event (FlatCase-body-Some' span form)) in
    omega (arith, e, d)

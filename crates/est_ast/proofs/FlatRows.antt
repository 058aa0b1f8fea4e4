-- Inner: the plain forms of flat nodes that hold a list.
use Rattle.std.proofs.Common.{◌≡◌, List, [], ◌∷◌, map, refl, ◌∙◌, ap}
use Rattle.std.specs.declared.alloc.Global.{Global}
use Rattle.std.specs.declared.vec.Vec.{Vec}
use Rattle.std.specs.declared.boxed.Box.{Box}
use Rattle.std.specs.Prelude.{Option}
use Rattle.est_ast.specs.declared.flat.FlatCase.{FlatCase}
use Rattle.est_ast.specs.declared.flat.FlatForm.{Row_of-FlatCase, end_of-FlatCase, more_of-FlatCase, items-the_row-FlatCase, items_hidden-the_row-FlatCase-0}
use Rattle.est_ast.specs.declared.flat.FlatForm.{Row_of-FlatStmt, end_of-FlatStmt, more_of-FlatStmt, items-the_row-FlatStmt, items_hidden-the_row-FlatStmt-1}
use Rattle.est_ast.specs.declared.flat.FlatForm.TheBlock.{hidden-the_row-FlatCase-0, hidden-the_row-FlatStmt-1}
use Rattle.est_ast.specs.declared.flat.FlatForm.TheVariants as forms
use Rattle.est_ast.specs.declared.flat.FlatExpr.{FlatExpr, Row_of-FlatExpr, end_of-FlatExpr, more_of-FlatExpr, items-the_row-FlatExpr}
use Rattle.est_ast.specs.declared.flat.FlatExpr.{items_hidden-the_row-FlatExpr-0}
use Rattle.est_ast.specs.declared.flat.FlatExpr.TheBlock.{hidden-the_row-FlatExpr-0}
use Rattle.est_ast.specs.declared.flat.FlatExpr.TheVariants as nodes
use Rattle.est_ast.specs.declared.flat.FlatStmt.{FlatStmt}
use Rattle.est_ast.specs.FlatTrees.{And, Or, MoreExprs, exprs, AwaitCase, PresentCase, AbortCase, Seq, Par, MoreStmts, stmts, MoreCases, cases}
use Rattle.est_ast.specs.FlatViews.{flat_expr_of, flat_exprs_of, flat_form_of, flat_stmt_of, flat_stmts_of, flat_cases_of, flat_event_of, flat_body_of}
use Rattle.est_ast.specs.FlatViews.{flat_case_of, flat_part_of}

row-exprs : {n : _} (row : Row_of-FlatExpr n) → flat_exprs_of row ≡ exprs (map flat_expr_of (items-the_row-FlatExpr _ row))
row-exprs end_of-FlatExpr = refl
row-exprs (more_of-FlatExpr e row) = ap (MoreExprs (flat_expr_of e)) (row-exprs row)

pub flat_expr-And : (v : Vec FlatExpr Global) → flat_expr_of (nodes.And v) ≡ And (exprs (map flat_expr_of v.items))
flat_expr-And v = ap And (row-exprs (hidden-the_row-FlatExpr-0 v) ∙ ap (λ l. exprs (map flat_expr_of l)) (items_hidden-the_row-FlatExpr-0 v))

pub flat_expr-Or : (v : Vec FlatExpr Global) → flat_expr_of (nodes.Or v) ≡ Or (exprs (map flat_expr_of v.items))
flat_expr-Or v = ap Or (row-exprs (hidden-the_row-FlatExpr-0 v) ∙ ap (λ l. exprs (map flat_expr_of l)) (items_hidden-the_row-FlatExpr-0 v))

row-stmts : {n : _} (row : Row_of-FlatStmt n) → flat_stmts_of row ≡ stmts (map flat_stmt_of (items-the_row-FlatStmt _ row))
row-stmts end_of-FlatStmt = refl
row-stmts (more_of-FlatStmt span p row) = ap (MoreStmts (flat_stmt_of (record { span = span; form = p }))) (row-stmts row)

pub flat_form-Seq : (v : Vec FlatStmt Global) → flat_form_of (forms.Seq v) ≡ Seq (stmts (map flat_stmt_of v.items))
flat_form-Seq v = ap Seq (row-stmts (hidden-the_row-FlatStmt-1 v) ∙ ap (λ l. stmts (map flat_stmt_of l)) (items_hidden-the_row-FlatStmt-1 v))

pub flat_form-Par : (v : Vec FlatStmt Global) → flat_form_of (forms.Par v) ≡ Par (stmts (map flat_stmt_of v.items))
flat_form-Par v = ap Par (row-stmts (hidden-the_row-FlatStmt-1 v) ∙ ap (λ l. stmts (map flat_stmt_of l)) (items_hidden-the_row-FlatStmt-1 v))

row-cases : {n : _} (row : Row_of-FlatCase n) → flat_cases_of row ≡ cases (map flat_case_of (items-the_row-FlatCase _ row))
row-cases end_of-FlatCase = refl
row-cases (more_of-FlatCase c row) = ap (MoreCases (flat_event_of c) (flat_body_of c)) (row-cases row)

hidden-cases : (v : Vec FlatCase Global) → flat_cases_of (hidden-the_row-FlatCase-0 v) ≡ cases (map flat_case_of v.items)
hidden-cases v = row-cases (hidden-the_row-FlatCase-0 v) ∙ ap (λ l. cases (map flat_case_of l)) (items_hidden-the_row-FlatCase-0 v)

pub flat_form-AwaitCase : (v : Vec FlatCase Global) → flat_form_of (forms.AwaitCase v) ≡ AwaitCase (cases (map flat_case_of v.items))
flat_form-AwaitCase v = ap AwaitCase (hidden-cases v)

pub flat_form-PresentCase : (v : Vec FlatCase Global) (q : Option (Box FlatStmt Global)) →
    flat_form_of (forms.PresentCase v q) ≡ PresentCase (cases (map flat_case_of v.items)) (flat_part_of q)
flat_form-PresentCase v q = ap (λ found. PresentCase found (flat_part_of q)) (hidden-cases v)

pub flat_form-AbortCase : (p : Box FlatStmt Global) (v : Vec FlatCase Global) →
    flat_form_of (forms.AbortCase p v) ≡ AbortCase (flat_stmt_of p.value) (cases (map flat_case_of v.items))
flat_form-AbortCase p v = ap (AbortCase (flat_stmt_of p.value)) (hidden-cases v)

-- all of them
pub ruleset flat_rows = (flat_expr-And, flat_expr-Or, flat_form-Seq, flat_form-Par, flat_form-AwaitCase, flat_form-PresentCase, flat_form-AbortCase)

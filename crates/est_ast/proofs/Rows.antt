-- Inner: the plain forms of nodes that hold a list.
use Rattle.std.proofs.Common.{◌≡◌, List, [], ◌∷◌, map, refl, ◌∙◌, ap}
use Rattle.std.specs.declared.alloc.Global.{Global}
use Rattle.std.specs.declared.vec.Vec.{Vec}
use Rattle.std.specs.declared.boxed.Box.{Box}
use Rattle.std.specs.Prelude.{Option}
use Rattle.est_ast.specs.declared.trees.Case.{Case}
use Rattle.est_ast.specs.declared.trees.Form.{Row_of-Case, end_of-Case, more_of-Case, items-the_row-Case, items_hidden-the_row-Case-0, Row_of-Stmt, end_of-Stmt}
use Rattle.est_ast.specs.declared.trees.Form.{more_of-Stmt, items-the_row-Stmt, items_hidden-the_row-Stmt-1}
use Rattle.est_ast.specs.declared.trees.Form.TheBlock.{hidden-the_row-Case-0, hidden-the_row-Stmt-1}
use Rattle.est_ast.specs.declared.trees.Form.TheVariants as forms
use Rattle.est_ast.specs.declared.trees.SigExpr.{SigExpr, Row_of-SigExpr, end_of-SigExpr, more_of-SigExpr, items-the_row-SigExpr}
use Rattle.est_ast.specs.declared.trees.SigExpr.{items_hidden-the_row-SigExpr-0}
use Rattle.est_ast.specs.declared.trees.SigExpr.TheBlock.{hidden-the_row-SigExpr-0}
use Rattle.est_ast.specs.declared.trees.SigExpr.TheVariants as nodes
use Rattle.est_ast.specs.declared.trees.Stmt.{Stmt}
use Rattle.est_ast.specs.Trees.{And, Or, MoreExprs, exprs, AwaitCase, PresentCase, AbortCase, Seq, Par, MoreStmts, stmts, MoreCases, cases}
use Rattle.est_ast.specs.Views.{expr_of, exprs_of, form_of, stmt_of, stmts_of, cases_of, event_of, body_of, case_of, part_of}

row-exprs : {n : _} (row : Row_of-SigExpr n) → exprs_of row ≡ exprs (map expr_of (items-the_row-SigExpr _ row))
row-exprs end_of-SigExpr = refl
row-exprs (more_of-SigExpr e row) = ap (MoreExprs (expr_of e)) (row-exprs row)

pub expr-And : (v : Vec SigExpr Global) → expr_of (nodes.And v) ≡ And (exprs (map expr_of v.items))
expr-And v = ap And (row-exprs (hidden-the_row-SigExpr-0 v) ∙ ap (λ l. exprs (map expr_of l)) (items_hidden-the_row-SigExpr-0 v))

pub expr-Or : (v : Vec SigExpr Global) → expr_of (nodes.Or v) ≡ Or (exprs (map expr_of v.items))
expr-Or v = ap Or (row-exprs (hidden-the_row-SigExpr-0 v) ∙ ap (λ l. exprs (map expr_of l)) (items_hidden-the_row-SigExpr-0 v))

row-stmts : {n : _} (row : Row_of-Stmt n) → stmts_of row ≡ stmts (map stmt_of (items-the_row-Stmt _ row))
row-stmts end_of-Stmt = refl
row-stmts (more_of-Stmt span p row) = ap (MoreStmts (stmt_of (record { span = span; form = p }))) (row-stmts row)

pub form-Seq : (v : Vec Stmt Global) → form_of (forms.Seq v) ≡ Seq (stmts (map stmt_of v.items))
form-Seq v = ap Seq (row-stmts (hidden-the_row-Stmt-1 v) ∙ ap (λ l. stmts (map stmt_of l)) (items_hidden-the_row-Stmt-1 v))

pub form-Par : (v : Vec Stmt Global) → form_of (forms.Par v) ≡ Par (stmts (map stmt_of v.items))
form-Par v = ap Par (row-stmts (hidden-the_row-Stmt-1 v) ∙ ap (λ l. stmts (map stmt_of l)) (items_hidden-the_row-Stmt-1 v))

row-cases : {n : _} (row : Row_of-Case n) → cases_of row ≡ cases (map case_of (items-the_row-Case _ row))
row-cases end_of-Case = refl
row-cases (more_of-Case c row) = ap (MoreCases (event_of c) (body_of c)) (row-cases row)

hidden-cases : (v : Vec Case Global) → cases_of (hidden-the_row-Case-0 v) ≡ cases (map case_of v.items)
hidden-cases v = row-cases (hidden-the_row-Case-0 v) ∙ ap (λ l. cases (map case_of l)) (items_hidden-the_row-Case-0 v)

pub form-AwaitCase : (v : Vec Case Global) → form_of (forms.AwaitCase v) ≡ AwaitCase (cases (map case_of v.items))
form-AwaitCase v = ap AwaitCase (hidden-cases v)

pub form-PresentCase : (v : Vec Case Global) (q : Option (Box Stmt Global)) →
    form_of (forms.PresentCase v q) ≡ PresentCase (cases (map case_of v.items)) (part_of q)
form-PresentCase v q = ap (λ found. PresentCase found (part_of q)) (hidden-cases v)

pub form-AbortCase : (p : Box Stmt Global) (v : Vec Case Global) → form_of (forms.AbortCase p v) ≡ AbortCase (stmt_of p.value) (cases (map case_of v.items))
form-AbortCase p v = ap (AbortCase (stmt_of p.value)) (hidden-cases v)

-- all of them
pub ruleset rows = (expr-And, expr-Or, form-Seq, form-Par, form-AwaitCase, form-PresentCase, form-AbortCase)

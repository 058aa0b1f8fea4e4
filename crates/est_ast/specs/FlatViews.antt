-- Contract: the plain form of a flat program.
use Rattle.std.specs.Prelude.{List, map, Option, Some, None}
use Rattle.std.specs.declared.alloc.Global.{Global}
use Rattle.std.specs.declared.boxed.Box.{Box}
use Rattle.base_types.specs.Relations.{relation_of}
use Rattle.est_ast.specs.declared.flat.Flat.{Flat as CodeFlat}
use Rattle.est_ast.specs.declared.flat.FlatCase.{FlatCase, FlatCase', Held-FlatCase-body, FlatCase-body-None'}
use Rattle.est_ast.specs.declared.flat.FlatCase.{FlatCase-body-Some'}
use Rattle.est_ast.specs.declared.flat.FlatDelay.{FlatDelay}
use Rattle.est_ast.specs.declared.flat.FlatDelay.TheVariants as delays
use Rattle.est_ast.specs.declared.flat.FlatExpr.{FlatExpr, Row_of-FlatExpr, end_of-FlatExpr, more_of-FlatExpr}
use Rattle.est_ast.specs.declared.flat.FlatExpr.TheVariants as exprs
use Rattle.est_ast.specs.declared.flat.FlatForm.{FlatForm, Held-FlatForm-Await-1, FlatForm-Await-1-None'}
use Rattle.est_ast.specs.declared.flat.FlatForm.{FlatForm-Await-1-Some', back-FlatForm-Await-1, Row_of-FlatCase}
use Rattle.est_ast.specs.declared.flat.FlatForm.{end_of-FlatCase, more_of-FlatCase, Row_of-FlatStmt, end_of-FlatStmt}
use Rattle.est_ast.specs.declared.flat.FlatForm.{more_of-FlatStmt}
use Rattle.est_ast.specs.declared.flat.FlatForm.TheVariants as forms
use Rattle.est_ast.specs.declared.flat.FlatStmt.{FlatStmt}
use Rattle.est_ast.specs.FlatTrees.{Expr, Tick, Sig, Not, And, Or, Exprs, NoExprs, MoreExprs, Delay}
use Rattle.est_ast.specs.FlatTrees.{Plain, Immediate, Count, Stmt, At, Form, Nothing, Pause, Halt, Emit, Sustain, Await}
use Rattle.est_ast.specs.FlatTrees.{AwaitCase, Present, PresentCase, Loop, LoopEach, Every, Repeat, Abort, AbortCase}
use Rattle.est_ast.specs.FlatTrees.{WeakAbort, Suspend, Trap, Exit, Signal, Seq, Par, Part, Missing, Written, Stmts}
use Rattle.est_ast.specs.FlatTrees.{NoStmts, MoreStmts, Cases, NoCases, MoreCases, Flat}

abbrev mutual
  pub flat_expr_of : FlatExpr → Expr
  flat_expr_of (exprs.Tick span) = Tick span
  flat_expr_of (exprs.Sig s) = Sig s.0
  flat_expr_of (exprs.Not' _ e) = Not (flat_expr_of e)
  flat_expr_of (exprs.And' _ row) = And (flat_exprs_of row)
  flat_expr_of (exprs.Or' _ row) = Or (flat_exprs_of row)

  pub flat_exprs_of : {n : _} → Row_of-FlatExpr n → Exprs
  flat_exprs_of end_of-FlatExpr = NoExprs
  flat_exprs_of (more_of-FlatExpr e row) = MoreExprs (flat_expr_of e) (flat_exprs_of row)

abbrev pub flat_delay_of : FlatDelay → Delay
flat_delay_of (delays.Plain event) = Plain (flat_expr_of event)
flat_delay_of (delays.Immediate event) = Immediate (flat_expr_of event)
flat_delay_of (delays.Count count span event) = Count count span (flat_expr_of event)

abbrev pub flat_event_of : FlatCase → Expr
flat_event_of (FlatCase' event body) = flat_expr_of event

abbrev mutual
  pub flat_form_of : FlatForm → Form
  flat_form_of forms.Nothing = Nothing
  flat_form_of forms.Pause = Pause
  flat_form_of forms.Halt = Halt
  flat_form_of (forms.Emit s) = Emit s.0
  flat_form_of (forms.Sustain s) = Sustain s.0
  flat_form_of (forms.Await' delay q) = Await (flat_delay_of delay) (flat_part_in q)
  flat_form_of (forms.AwaitCase' _ row) = AwaitCase (flat_cases_of row)
  flat_form_of (forms.Present' e p q) = Present (flat_expr_of e) (flat_part_in p) (flat_part_in q)
  flat_form_of (forms.PresentCase' _ row q) = PresentCase (flat_cases_of row) (flat_part_in q)
  flat_form_of (forms.Loop' _ span p) = Loop (At span (flat_form_of p))
  flat_form_of (forms.LoopEach' _ span p delay) = LoopEach (At span (flat_form_of p)) (flat_delay_of delay)
  flat_form_of (forms.Every' delay _ span p) = Every (flat_delay_of delay) (At span (flat_form_of p))
  flat_form_of (forms.Repeat' count at _ span p) = Repeat count at (At span (flat_form_of p))
  flat_form_of (forms.Abort' _ span p delay q) = Abort (At span (flat_form_of p)) (flat_delay_of delay) (flat_part_in q)
  flat_form_of (forms.AbortCase' _ span p _ row) = AbortCase (At span (flat_form_of p)) (flat_cases_of row)
  flat_form_of (forms.WeakAbort' _ span p delay) = WeakAbort (At span (flat_form_of p)) (flat_delay_of delay)
  flat_form_of (forms.Suspend' _ span p delay) = Suspend (At span (flat_form_of p)) (flat_delay_of delay)
  flat_form_of (forms.Trap' _ span p handler) = Trap (At span (flat_form_of p)) (flat_part_in handler)
  flat_form_of (forms.Exit k) = Exit k
  flat_form_of (forms.Signal' signals _ span p) = Signal (map (λ s. s.0) signals.items) (At span (flat_form_of p))
  flat_form_of (forms.Seq' _ row) = Seq (flat_stmts_of row)
  flat_form_of (forms.Par' _ row) = Par (flat_stmts_of row)

  pub flat_part_in : Held-FlatForm-Await-1 → Part
  flat_part_in FlatForm-Await-1-None' = Missing
  flat_part_in (FlatForm-Await-1-Some' _ span p) = Written (At span (flat_form_of p))

  pub flat_stmts_of : {n : _} → Row_of-FlatStmt n → Stmts
  flat_stmts_of end_of-FlatStmt = NoStmts
  flat_stmts_of (more_of-FlatStmt span p row) = MoreStmts (At span (flat_form_of p)) (flat_stmts_of row)

  pub flat_cases_of : {n : _} → Row_of-FlatCase n → Cases
  flat_cases_of end_of-FlatCase = NoCases
  flat_cases_of (more_of-FlatCase c row) = MoreCases (flat_event_of c) (flat_body_of c) (flat_cases_of row)

  pub flat_body_of : FlatCase → Part
  flat_body_of (FlatCase' event body) = flat_body_in body

  pub flat_body_in : Held-FlatCase-body → Part
  flat_body_in FlatCase-body-None' = Missing
  flat_body_in (FlatCase-body-Some' span p) = Written (At span (flat_form_of p))

abbrev pub flat_stmt_of : FlatStmt → Stmt
flat_stmt_of statement = At statement.span (flat_form_of statement.form)

abbrev pub flat_case_of : FlatCase → Expr × Part
flat_case_of c = (flat_event_of c, flat_body_of c)

-- a part that may be left out
abbrev pub flat_part_of : Option (Box FlatStmt Global) → Part
flat_part_of q = flat_part_in (back-FlatForm-Await-1 q)

abbrev pub flat_of : CodeFlat → Flat
flat_of flat = record {
  name = flat.name;
  signals = map (λ s. s.name) flat.signals.items;
  inputs = flat.inputs;
  both = flat.both;
  outputs = flat.outputs;
  relations = map relation_of flat.relations.items;
  body = flat_stmt_of flat.body;
}

-- Contract: the plain form of a source tree.
use Rattle.std.specs.Prelude.{List, map, Option, Some, None}
use Rattle.std.specs.declared.alloc.Global.{Global}
use Rattle.std.specs.declared.boxed.Box.{Box}
use Rattle.est_ast.specs.declared.trees.Case.{Case, Case', Held-Case-body, Case-body-None', Case-body-Some'}
use Rattle.est_ast.specs.declared.trees.Decl.{Decl as CodeDecl}
use Rattle.est_ast.specs.declared.trees.Decl.TheVariants as decls
use Rattle.est_ast.specs.declared.trees.Delay.{Delay as CodeDelay}
use Rattle.est_ast.specs.declared.trees.Delay.TheVariants as delays
use Rattle.est_ast.specs.declared.trees.Form.{Form as CodeForm, Held-Form-Await-1, Form-Await-1-None'}
use Rattle.est_ast.specs.declared.trees.Form.{Form-Await-1-Some', back-Form-Await-1, Row_of-Case, end_of-Case}
use Rattle.est_ast.specs.declared.trees.Form.{more_of-Case, Held-Form-Trap-2, Form-Trap-2-None', Form-Trap-2-Some'}
use Rattle.est_ast.specs.declared.trees.Form.{back-Form-Trap-2, Row_of-Stmt, end_of-Stmt, more_of-Stmt}
use Rattle.est_ast.specs.declared.trees.Form.TheVariants as forms
use Rattle.est_ast.specs.declared.trees.Handle.{Handle, Handle'}
use Rattle.est_ast.specs.declared.trees.Module.{Module as CodeModule}
use Rattle.est_ast.specs.declared.trees.Program.{Program as CodeProgram}
use Rattle.est_ast.specs.declared.trees.Relation.{Relation as CodeRelation}
use Rattle.est_ast.specs.declared.trees.Relation.TheVariants as relations
use Rattle.est_ast.specs.declared.trees.SigExpr.{SigExpr, Row_of-SigExpr, end_of-SigExpr, more_of-SigExpr}
use Rattle.est_ast.specs.declared.trees.SigExpr.TheVariants as exprs
use Rattle.est_ast.specs.declared.trees.Stmt.{Stmt as CodeStmt}
use Rattle.est_ast.specs.Trees.{Expr, Tick, Sig, Not, And, Or, Round, Square, Exprs, NoExprs, MoreExprs, Delay, Plain}
use Rattle.est_ast.specs.Trees.{Immediate, Count, Stmt, At, Form, Nothing, Pause, Halt, Emit, Sustain, Await, AwaitCase}
use Rattle.est_ast.specs.Trees.{Present, PresentCase, Loop, LoopEach, Every, Repeat, Abort, AbortCase, WeakAbort}
use Rattle.est_ast.specs.Trees.{Suspend, Trap, Exit, Signal, Run, Seq, Par, Group, Part, Missing, Written, Handler}
use Rattle.est_ast.specs.Trees.{NoHandler, Handled, Stmts, NoStmts, MoreStmts, Cases, NoCases, MoreCases, NamedRelation}
use Rattle.est_ast.specs.Trees.{Implies, Excludes, Decl, Input, InputOutput, Output, Relations, Module, SourceProgram}

abbrev mutual
  pub expr_of : SigExpr → Expr
  expr_of (exprs.Tick span) = Tick span
  expr_of (exprs.Sig name) = Sig name
  expr_of (exprs.Not' _ e) = Not (expr_of e)
  expr_of (exprs.And' _ row) = And (exprs_of row)
  expr_of (exprs.Or' _ row) = Or (exprs_of row)
  expr_of (exprs.Round' _ e) = Round (expr_of e)
  expr_of (exprs.Square' _ e) = Square (expr_of e)

  pub exprs_of : {n : _} → Row_of-SigExpr n → Exprs
  exprs_of end_of-SigExpr = NoExprs
  exprs_of (more_of-SigExpr e row) = MoreExprs (expr_of e) (exprs_of row)

abbrev pub delay_of : CodeDelay → Delay
delay_of (delays.Plain event) = Plain (expr_of event)
delay_of (delays.Immediate event) = Immediate (expr_of event)
delay_of (delays.Count count span event) = Count count span (expr_of event)

abbrev pub event_of : Case → Expr
event_of (Case' event body) = expr_of event

abbrev mutual
  pub form_of : CodeForm → Form
  form_of forms.Nothing = Nothing
  form_of forms.Pause = Pause
  form_of forms.Halt = Halt
  form_of (forms.Emit name) = Emit name
  form_of (forms.Sustain name) = Sustain name
  form_of (forms.Await' delay q) = Await (delay_of delay) (part_in q)
  form_of (forms.AwaitCase' _ row) = AwaitCase (cases_of row)
  form_of (forms.Present' e p q) = Present (expr_of e) (part_in p) (part_in q)
  form_of (forms.PresentCase' _ row q) = PresentCase (cases_of row) (part_in q)
  form_of (forms.Loop' _ span p) = Loop (At span (form_of p))
  form_of (forms.LoopEach' _ span p delay) = LoopEach (At span (form_of p)) (delay_of delay)
  form_of (forms.Every' delay _ span p) = Every (delay_of delay) (At span (form_of p))
  form_of (forms.Repeat' count at _ span p) = Repeat count at (At span (form_of p))
  form_of (forms.Abort' _ span p delay q) = Abort (At span (form_of p)) (delay_of delay) (part_in q)
  form_of (forms.AbortCase' _ span p _ row) = AbortCase (At span (form_of p)) (cases_of row)
  form_of (forms.WeakAbort' _ span p delay) = WeakAbort (At span (form_of p)) (delay_of delay)
  form_of (forms.Suspend' _ span p delay) = Suspend (At span (form_of p)) (delay_of delay)
  form_of (forms.Trap' name _ span p handler) = Trap name (At span (form_of p)) (handler_in handler)
  form_of (forms.Exit name) = Exit name
  form_of (forms.Signal' names _ span p) = Signal names.items (At span (form_of p))
  form_of (forms.Run name renames) = Run name renames.items
  form_of (forms.Seq' _ row) = Seq (stmts_of row)
  form_of (forms.Par' _ row) = Par (stmts_of row)
  form_of (forms.Group' _ span p) = Group (At span (form_of p))

  pub part_in : Held-Form-Await-1 → Part
  part_in Form-Await-1-None' = Missing
  part_in (Form-Await-1-Some' _ span p) = Written (At span (form_of p))

  pub handler_in : Held-Form-Trap-2 → Handler
  handler_in Form-Trap-2-None' = NoHandler
  handler_in (Form-Trap-2-Some' handle) = handler_of handle

  pub handler_of : Handle → Handler
  handler_of (Handle' name _ span p) = Handled name (At span (form_of p))

  pub stmts_of : {n : _} → Row_of-Stmt n → Stmts
  stmts_of end_of-Stmt = NoStmts
  stmts_of (more_of-Stmt span p row) = MoreStmts (At span (form_of p)) (stmts_of row)

  pub cases_of : {n : _} → Row_of-Case n → Cases
  cases_of end_of-Case = NoCases
  cases_of (more_of-Case c row) = MoreCases (event_of c) (body_of c) (cases_of row)

  pub body_of : Case → Part
  body_of (Case' event body) = body_in body

  pub body_in : Held-Case-body → Part
  body_in Case-body-None' = Missing
  body_in (Case-body-Some' span p) = Written (At span (form_of p))

abbrev pub stmt_of : CodeStmt → Stmt
stmt_of statement = At statement.span (form_of statement.form)

abbrev pub case_of : Case → Expr × Part
case_of c = (event_of c, body_of c)

-- a statement in a box
abbrev pub boxed : Box CodeStmt Global → Stmt
boxed p = stmt_of p.value

-- a part and a handler that may be left out
abbrev pub part_of : Option (Box CodeStmt Global) → Part
part_of q = part_in (back-Form-Await-1 q)

abbrev pub handle_of : Option Handle → Handler
handle_of handle = handler_in (back-Form-Trap-2 handle)

abbrev pub relation_of : CodeRelation → NamedRelation
relation_of (relations.Implies cause effect) = Implies cause effect
relation_of (relations.Excludes names) = Excludes names.items

abbrev pub decl_of : CodeDecl → Decl
decl_of (decls.Input names) = Input names.items
decl_of (decls.InputOutput names) = InputOutput names.items
decl_of (decls.Output names) = Output names.items
decl_of (decls.Relation relations) = Relations (map relation_of relations.items)

abbrev pub module_of : CodeModule → Module
module_of m = record { name = m.name; decls = map decl_of m.decls.items; body = stmt_of m.body }

abbrev pub program_of : CodeProgram → SourceProgram
program_of program = map module_of program.modules.items

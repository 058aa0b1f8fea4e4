-- Contract: a tree without its places. Two trees that are equal without them are the same except for where they stand.
use Rattle.std.specs.Prelude.{map}
use Rattle.base_types.specs.declared.place.Span.{Span}
use Rattle.est_ast.specs.declared.trees.Name.{Name}
use Rattle.est_ast.specs.declared.trees.Rename.{Rename}
use Rattle.est_ast.specs.Trees.{Expr, Tick, Sig, Not, And, Or, Round, Square, Exprs, NoExprs, MoreExprs, Delay, Plain}
use Rattle.est_ast.specs.Trees.{Immediate, Count, Stmt, At, Form, Nothing, Pause, Halt, Emit, Sustain, Await, AwaitCase}
use Rattle.est_ast.specs.Trees.{Present, PresentCase, Loop, LoopEach, Every, Repeat, Abort, AbortCase, WeakAbort}
use Rattle.est_ast.specs.Trees.{Suspend, Trap, Exit, Signal, Run, Seq, Par, Group, Part, Missing, Written, Handler}
use Rattle.est_ast.specs.Trees.{NoHandler, Handled, Stmts, NoStmts, MoreStmts, Cases, NoCases, MoreCases, NamedRelation}
use Rattle.est_ast.specs.Trees.{Implies, Excludes, Decl, Input, InputOutput, Output, Relations, Module, SourceProgram}

-- what stands for each place
abbrev pub nowhere : Span
nowhere = record { start = 0; end = 0 }

abbrev pub unplaced_name : Name → Name
unplaced_name n = record { text = n.text; span = nowhere }

abbrev pub unplaced_rename : Rename → Rename
unplaced_rename rename = record { actual = unplaced_name rename.actual; formal = unplaced_name rename.formal }

abbrev mutual
  pub unplaced_expr : Expr → Expr
  unplaced_expr (Tick span) = Tick nowhere
  unplaced_expr (Sig n) = Sig (unplaced_name n)
  unplaced_expr (Not e) = Not (unplaced_expr e)
  unplaced_expr (And parts) = And (unplaced_exprs parts)
  unplaced_expr (Or parts) = Or (unplaced_exprs parts)
  unplaced_expr (Round e) = Round (unplaced_expr e)
  unplaced_expr (Square e) = Square (unplaced_expr e)

  pub unplaced_exprs : Exprs → Exprs
  unplaced_exprs NoExprs = NoExprs
  unplaced_exprs (MoreExprs e others) = MoreExprs (unplaced_expr e) (unplaced_exprs others)

abbrev pub unplaced_delay : Delay → Delay
unplaced_delay (Plain event) = Plain (unplaced_expr event)
unplaced_delay (Immediate event) = Immediate (unplaced_expr event)
unplaced_delay (Count count span event) = Count count nowhere (unplaced_expr event)

abbrev mutual
  pub unplaced_stmt : Stmt → Stmt
  unplaced_stmt (At span form) = At nowhere (unplaced_form form)

  pub unplaced_form : Form → Form
  unplaced_form Nothing = Nothing
  unplaced_form Pause = Pause
  unplaced_form Halt = Halt
  unplaced_form (Emit n) = Emit (unplaced_name n)
  unplaced_form (Sustain n) = Sustain (unplaced_name n)
  unplaced_form (Exit n) = Exit (unplaced_name n)
  unplaced_form (Group p) = Group (unplaced_stmt p)
  unplaced_form (Await delay q) = Await (unplaced_delay delay) (unplaced_part q)
  unplaced_form (AwaitCase cases) = AwaitCase (unplaced_cases cases)
  unplaced_form (Present e p q) = Present (unplaced_expr e) (unplaced_part p) (unplaced_part q)
  unplaced_form (PresentCase cases q) = PresentCase (unplaced_cases cases) (unplaced_part q)
  unplaced_form (Loop p) = Loop (unplaced_stmt p)
  unplaced_form (LoopEach p delay) = LoopEach (unplaced_stmt p) (unplaced_delay delay)
  unplaced_form (Every delay p) = Every (unplaced_delay delay) (unplaced_stmt p)
  unplaced_form (Repeat count span p) = Repeat count nowhere (unplaced_stmt p)
  unplaced_form (Abort p delay q) = Abort (unplaced_stmt p) (unplaced_delay delay) (unplaced_part q)
  unplaced_form (AbortCase p cases) = AbortCase (unplaced_stmt p) (unplaced_cases cases)
  unplaced_form (WeakAbort p delay) = WeakAbort (unplaced_stmt p) (unplaced_delay delay)
  unplaced_form (Suspend p delay) = Suspend (unplaced_stmt p) (unplaced_delay delay)
  unplaced_form (Trap n p handler) = Trap (unplaced_name n) (unplaced_stmt p) (unplaced_handler handler)
  unplaced_form (Signal names p) = Signal (map unplaced_name names) (unplaced_stmt p)
  unplaced_form (Run n renames) = Run (unplaced_name n) (map unplaced_rename renames)
  unplaced_form (Seq parts) = Seq (unplaced_stmts parts)
  unplaced_form (Par parts) = Par (unplaced_stmts parts)

  pub unplaced_part : Part → Part
  unplaced_part Missing = Missing
  unplaced_part (Written p) = Written (unplaced_stmt p)

  pub unplaced_handler : Handler → Handler
  unplaced_handler NoHandler = NoHandler
  unplaced_handler (Handled n p) = Handled (unplaced_name n) (unplaced_stmt p)

  pub unplaced_stmts : Stmts → Stmts
  unplaced_stmts NoStmts = NoStmts
  unplaced_stmts (MoreStmts p others) = MoreStmts (unplaced_stmt p) (unplaced_stmts others)

  pub unplaced_cases : Cases → Cases
  unplaced_cases NoCases = NoCases
  unplaced_cases (MoreCases event body others) =
      MoreCases (unplaced_expr event) (unplaced_part body) (unplaced_cases others)

abbrev pub unplaced_relation : NamedRelation → NamedRelation
unplaced_relation (Implies cause effect) = Implies (unplaced_name cause) (unplaced_name effect)
unplaced_relation (Excludes names) = Excludes (map unplaced_name names)

abbrev pub unplaced_decl : Decl → Decl
unplaced_decl (Input names) = Input (map unplaced_name names)
unplaced_decl (InputOutput names) = InputOutput (map unplaced_name names)
unplaced_decl (Output names) = Output (map unplaced_name names)
unplaced_decl (Relations relations) = Relations (map unplaced_relation relations)

abbrev pub unplaced_module : Module → Module
unplaced_module m = record {
  name = unplaced_name m.name;
  decls = map unplaced_decl m.decls;
  body = unplaced_stmt m.body;
}

-- a program without its places
abbrev pub unplaced : SourceProgram → SourceProgram
unplaced p = map unplaced_module p

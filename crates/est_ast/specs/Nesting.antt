-- To believe: how deep a tree is nested. The nesting is the greatest number, over all ways from a module's body down,
-- of these nodes: each statement that has room for a statement or a case, and each `not`, `( )` and `[ ]`. Lists count
-- nothing. Each node that counts is opened by a token of its own.
use Rattle.std.specs.Prelude.{ℕ, suc, max, List, [], ◌∷◌}
use Rattle.est_ast.specs.declared.tokens.Token.{Token}
use Rattle.est_ast.specs.Trees.{Expr, Tick, Sig, Not, And, Or, Round, Square, Exprs, NoExprs, MoreExprs, Delay, Plain}
use Rattle.est_ast.specs.Trees.{Immediate, Count, Stmt, At, Form, Nothing, Pause, Halt, Emit, Sustain, Await, AwaitCase}
use Rattle.est_ast.specs.Trees.{Present, PresentCase, Loop, LoopEach, Every, Repeat, Abort, AbortCase, WeakAbort}
use Rattle.est_ast.specs.Trees.{Suspend, Trap, Exit, Signal, Run, Seq, Par, Group, Part, Missing, Written, Handler}
use Rattle.est_ast.specs.Trees.{NoHandler, Handled, Stmts, NoStmts, MoreStmts, Cases, NoCases, MoreCases, Module}
use Rattle.est_ast.specs.Trees.{SourceProgram}
use Rattle.est_ast.specs.Grammar.{SpellsProgram}
use Rattle.base_reader.specs.Languages.{Within}

abbrev mutual
  pub expr_nesting : Expr → ℕ
  expr_nesting (Tick span) = 0
  expr_nesting (Sig name) = 0
  expr_nesting (Not e) = suc (expr_nesting e)
  expr_nesting (And parts) = exprs_nesting parts
  expr_nesting (Or parts) = exprs_nesting parts
  expr_nesting (Round e) = suc (expr_nesting e)
  expr_nesting (Square e) = suc (expr_nesting e)

  pub exprs_nesting : Exprs → ℕ
  exprs_nesting NoExprs = 0
  exprs_nesting (MoreExprs e others) = max (expr_nesting e) (exprs_nesting others)

abbrev pub delay_nesting : Delay → ℕ
delay_nesting (Plain event) = expr_nesting event
delay_nesting (Immediate event) = expr_nesting event
delay_nesting (Count count span event) = expr_nesting event

abbrev mutual
  pub nesting : Stmt → ℕ
  nesting (At span form) = form_nesting form

  pub form_nesting : Form → ℕ
  form_nesting Nothing = 0
  form_nesting Pause = 0
  form_nesting Halt = 0
  form_nesting (Emit name) = 0
  form_nesting (Sustain name) = 0
  form_nesting (Exit name) = 0
  form_nesting (Run name renames) = 0
  form_nesting (Seq parts) = stmts_nesting parts
  form_nesting (Par parts) = stmts_nesting parts
  form_nesting (Group p) = suc (nesting p)
  form_nesting (Await delay q) = suc (max (delay_nesting delay) (part_nesting q))
  form_nesting (AwaitCase cases) = suc (cases_nesting cases)
  form_nesting (Present e p q) = suc (max (expr_nesting e) (max (part_nesting p) (part_nesting q)))
  form_nesting (PresentCase cases q) = suc (max (cases_nesting cases) (part_nesting q))
  form_nesting (Loop p) = suc (nesting p)
  form_nesting (LoopEach p delay) = suc (max (nesting p) (delay_nesting delay))
  form_nesting (Every delay p) = suc (max (delay_nesting delay) (nesting p))
  form_nesting (Repeat count span p) = suc (nesting p)
  form_nesting (Abort p delay q) = suc (max (nesting p) (max (delay_nesting delay) (part_nesting q)))
  form_nesting (AbortCase p cases) = suc (max (nesting p) (cases_nesting cases))
  form_nesting (WeakAbort p delay) = suc (max (nesting p) (delay_nesting delay))
  form_nesting (Suspend p delay) = suc (max (nesting p) (delay_nesting delay))
  form_nesting (Trap name p handler) = suc (max (nesting p) (handler_nesting handler))
  form_nesting (Signal names p) = suc (nesting p)

  pub part_nesting : Part → ℕ
  part_nesting Missing = 0
  part_nesting (Written p) = nesting p

  pub handler_nesting : Handler → ℕ
  handler_nesting NoHandler = 0
  handler_nesting (Handled name p) = nesting p

  pub stmts_nesting : Stmts → ℕ
  stmts_nesting NoStmts = 0
  stmts_nesting (MoreStmts p others) = max (nesting p) (stmts_nesting others)

  pub cases_nesting : Cases → ℕ
  cases_nesting NoCases = 0
  cases_nesting (MoreCases event body others) = max (max (expr_nesting event) (part_nesting body))
      (cases_nesting others)

abbrev pub program_nesting : SourceProgram → ℕ
program_nesting [] = 0
program_nesting (m ∷ others) = max (nesting m.body) (program_nesting others)

-- the tokens spell the program, and it is nested at most so deep
abbrev pub IsProgram : ℕ → SourceProgram → List Token → Type 0
IsProgram = Within SpellsProgram program_nesting

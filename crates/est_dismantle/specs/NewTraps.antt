-- Inner: how many traps stand around an exit of a flat statement at most, those of an expansion among them.
use Rattle.std.specs.Prelude.{ℕ, ◌+◌, max}
use Rattle.est_ast.specs.FlatTrees.{Stmt, At, Form, Nothing, Pause, Halt, Emit, Sustain}
use Rattle.est_ast.specs.FlatTrees.{Await, AwaitCase, Present, PresentCase, Loop, LoopEach, Every, Repeat, Abort}
use Rattle.est_ast.specs.FlatTrees.{AbortCase, WeakAbort, Suspend, Trap, Exit, Signal, Seq, Par, Part, Missing, Written}
use Rattle.est_ast.specs.FlatTrees.{Stmts, NoStmts, MoreStmts, Cases, NoCases, MoreCases}

-- The traps that are put around the parts are those of `kernel_of_form`.
abbrev mutual
  pub traps_in : Stmt → ℕ
  traps_in (At span form) = traps_in_form form

  pub traps_in_form : Form → ℕ
  traps_in_form Nothing = 0
  traps_in_form Pause = 0
  traps_in_form Halt = 0
  traps_in_form (Emit s) = 0
  traps_in_form (Sustain s) = 0
  traps_in_form (Await delay q) = traps_in_part q
  traps_in_form (AwaitCase cases) = traps_in_cases cases
  traps_in_form (Present e p q) = max (traps_in_part p) (traps_in_part q)
  traps_in_form (PresentCase cases q) = max (traps_in_cases cases) (traps_in_part q)
  traps_in_form (Loop p) = traps_in p
  traps_in_form (LoopEach p delay) = 1 + traps_in p
  traps_in_form (Every delay p) = 1 + traps_in p
  traps_in_form (Repeat count span p) = traps_in p
  traps_in_form (Abort p delay Missing) = 1 + traps_in p
  traps_in_form (Abort p delay (Written q)) = max (2 + traps_in p) (1 + traps_in q)
  traps_in_form (AbortCase p cases) = max (2 + traps_in p) (1 + traps_in_cases cases)
  traps_in_form (WeakAbort p delay) = 1 + traps_in p
  traps_in_form (Suspend p delay) = traps_in p
  traps_in_form (Trap p Missing) = 1 + traps_in p
  traps_in_form (Trap p (Written q)) = max (2 + traps_in p) (1 + traps_in q)
  traps_in_form (Exit k) = 0
  traps_in_form (Signal signals p) = traps_in p
  traps_in_form (Seq parts) = traps_in_stmts parts
  traps_in_form (Par parts) = traps_in_stmts parts

  pub traps_in_part : Part → ℕ
  traps_in_part Missing = 0
  traps_in_part (Written p) = traps_in p

  pub traps_in_stmts : Stmts → ℕ
  traps_in_stmts NoStmts = 0
  traps_in_stmts (MoreStmts p others) = max (traps_in p) (traps_in_stmts others)

  pub traps_in_cases : Cases → ℕ
  traps_in_cases NoCases = 0
  traps_in_cases (MoreCases event body others) = max (traps_in_part body) (traps_in_cases others)

-- To believe: how many signals the expansion of a flat statement will need.
use Rattle.std.specs.Prelude.{ℕ, ◌+◌, nat_le, if◌then◌else◌}
use Rattle.est_ast.specs.FlatTrees.{Delay, Plain, Immediate, Count, Stmt, At, Form, Nothing, Pause, Halt, Emit, Sustain}
use Rattle.est_ast.specs.FlatTrees.{Await, AwaitCase, Present, PresentCase, Loop, LoopEach, Every, Repeat, Abort}
use Rattle.est_ast.specs.FlatTrees.{AbortCase, WeakAbort, Suspend, Trap, Exit, Signal, Seq, Par, Part, Missing, Written}
use Rattle.est_ast.specs.FlatTrees.{Stmts, NoStmts, MoreStmts, Cases, NoCases, MoreCases}

-- one where a delay is a count of 2 or more: an abortion by such a delay has a new signal
abbrev pub new_by : Delay → ℕ
new_by (Plain event) = 0
new_by (Immediate event) = 0
new_by (Count count span event) = if nat_le count 1 then 0 else 1

-- How many new signals there are in a statement: one for each abortion by a count of 2 or more.
abbrev mutual
  pub new_in : Stmt → ℕ
  new_in (At span form) = new_in_form form

  pub new_in_form : Form → ℕ
  new_in_form Nothing = 0
  new_in_form Pause = 0
  new_in_form Halt = 0
  new_in_form (Emit s) = 0
  new_in_form (Sustain s) = 0
  new_in_form (Await delay q) = new_in_part q
  new_in_form (AwaitCase cases) = new_in_cases cases
  new_in_form (Present e p q) = new_in_part p + new_in_part q
  new_in_form (PresentCase cases q) = new_in_cases cases + new_in_part q
  new_in_form (Loop p) = new_in p
  new_in_form (LoopEach p delay) = new_by delay + new_in p
  new_in_form (Every delay p) = new_by delay + new_in p
  new_in_form (Repeat count span p) = new_in p
  new_in_form (Abort p delay q) = new_by delay + (new_in p + new_in_part q)
  new_in_form (AbortCase p cases) = new_in p + new_in_cases cases
  new_in_form (WeakAbort p delay) = new_in p
  new_in_form (Suspend p delay) = new_in p
  new_in_form (Trap p handler) = new_in p + new_in_part handler
  new_in_form (Exit k) = 0
  new_in_form (Signal signals p) = new_in p
  new_in_form (Seq parts) = new_in_stmts parts
  new_in_form (Par parts) = new_in_stmts parts

  pub new_in_part : Part → ℕ
  new_in_part Missing = 0
  new_in_part (Written p) = new_in p

  pub new_in_stmts : Stmts → ℕ
  new_in_stmts NoStmts = 0
  new_in_stmts (MoreStmts p others) = new_in p + new_in_stmts others

  pub new_in_cases : Cases → ℕ
  new_in_cases NoCases = 0
  new_in_cases (MoreCases event body others) = new_in_part body + new_in_cases others

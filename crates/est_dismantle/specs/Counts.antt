-- To believe: the places of counts that are 0 or above 255, in the order in which they are written.
use Rattle.std.specs.Prelude.{ℕ, ◌&&◌, nat_le, if◌then◌else◌, List, [], ◌∷◌, ◌++◌}
use Rattle.base_types.specs.declared.place.Span.{Span}
use Rattle.base_types.specs.declared.bounds.TheConstants.Limits.{LEAST_COUNT, GREATEST_COUNT}
use Rattle.est_ast.specs.FlatTrees.{Delay, Plain, Immediate, Count, Stmt, At, Form, Nothing, Pause, Halt, Emit, Sustain}
use Rattle.est_ast.specs.FlatTrees.{Await, AwaitCase, Present, PresentCase, Loop, LoopEach, Every, Repeat, Abort}
use Rattle.est_ast.specs.FlatTrees.{AbortCase, WeakAbort, Suspend, Trap, Exit, Signal, Seq, Par, Part, Missing, Written}
use Rattle.est_ast.specs.FlatTrees.{Stmts, NoStmts, MoreStmts, Cases, NoCases, MoreCases}

-- the place of a count, where the count is bad
abbrev pub bad_count : ℕ → Span → List Span
bad_count count span = if nat_le LEAST_COUNT count && nat_le count GREATEST_COUNT then [] else span ∷ []

abbrev pub bad_in_delay : Delay → List Span
bad_in_delay (Plain event) = []
bad_in_delay (Immediate event) = []
bad_in_delay (Count count span event) = bad_count count span

abbrev mutual
  pub bad_in : Stmt → List Span
  bad_in (At span form) = bad_in_form form

  pub bad_in_form : Form → List Span
  bad_in_form Nothing = []
  bad_in_form Pause = []
  bad_in_form Halt = []
  bad_in_form (Emit s) = []
  bad_in_form (Sustain s) = []
  bad_in_form (Await delay q) = bad_in_delay delay ++ bad_in_part q
  bad_in_form (AwaitCase cases) = bad_in_cases cases
  bad_in_form (Present e p q) = bad_in_part p ++ bad_in_part q
  bad_in_form (PresentCase cases q) = bad_in_cases cases ++ bad_in_part q
  bad_in_form (Loop p) = bad_in p
  bad_in_form (LoopEach p delay) = bad_in p ++ bad_in_delay delay
  bad_in_form (Every delay p) = bad_in_delay delay ++ bad_in p
  bad_in_form (Repeat count span p) = bad_count count span ++ bad_in p
  bad_in_form (Abort p delay q) = bad_in p ++ (bad_in_delay delay ++ bad_in_part q)
  bad_in_form (AbortCase p cases) = bad_in p ++ bad_in_cases cases
  bad_in_form (WeakAbort p delay) = bad_in p ++ bad_in_delay delay
  bad_in_form (Suspend p delay) = bad_in p ++ bad_in_delay delay
  bad_in_form (Trap p handler) = bad_in p ++ bad_in_part handler
  bad_in_form (Exit k) = []
  bad_in_form (Signal signals p) = bad_in p
  bad_in_form (Seq parts) = bad_in_stmts parts
  bad_in_form (Par parts) = bad_in_stmts parts

  pub bad_in_part : Part → List Span
  bad_in_part Missing = []
  bad_in_part (Written p) = bad_in p

  pub bad_in_stmts : Stmts → List Span
  bad_in_stmts NoStmts = []
  bad_in_stmts (MoreStmts p others) = bad_in p ++ bad_in_stmts others

  pub bad_in_cases : Cases → List Span
  bad_in_cases NoCases = []
  bad_in_cases (MoreCases event body others) = bad_in_part body ++ bad_in_cases others

-- To believe: the points of a flat program, in the order in which they are written. A point is the start of an
-- emission, of a pause, of a wait or of a branch. A module that is run several times has its points once for each run.
use Rattle.std.specs.Prelude.{List, [], ◌∷◌, ◌++◌}
use Rattle.base_types.specs.declared.place.Span.{Span}
use Rattle.est_ast.specs.FlatTrees.{Stmt, At, Form, Nothing, Pause, Halt, Emit, Sustain, Await, AwaitCase, Present}
use Rattle.est_ast.specs.FlatTrees.{PresentCase, Loop, LoopEach, Every, Repeat, Abort, AbortCase, WeakAbort, Suspend}
use Rattle.est_ast.specs.FlatTrees.{Trap, Exit, Signal, Seq, Par, Part, Missing, Written, Stmts, NoStmts, MoreStmts}
use Rattle.est_ast.specs.FlatTrees.{Cases, NoCases, MoreCases, Flat}
use Rattle.est_cover.specs.declared.points.Point.{Point}
use Rattle.est_cover.specs.declared.points.PointKind.{PointKind}
use Rattle.est_cover.specs.declared.points.PointKind.TheVariants as kinds

abbrev pub stmt_place : Stmt → Span
stmt_place (At span form) = span

-- the place of a branch: that of its statement, or that of the whole where the branch is not written
abbrev pub branch_place : Span → Part → Span
branch_place at Missing = at
branch_place at (Written p) = stmt_place p

-- one more point
abbrev pub with_point : PointKind → Span → List Point → List Point
with_point kind at before = before ++ record { kind = kind; span = at } ∷ []

-- The points up to the end of a statement, where these are the points before it.
abbrev mutual
  pub points_after : List Point → Stmt → List Point
  points_after before (At at form) = form_points before at form

  pub form_points : List Point → Span → Form → List Point
  form_points before at Nothing = before
  form_points before at Pause = with_point kinds.Pause at before
  form_points before at Halt = with_point kinds.Halt at before
  form_points before at (Emit s) = with_point kinds.Emit at before
  form_points before at (Sustain s) = with_point kinds.Sustain at before
  form_points before at (Await delay q) = handler_points kinds.Do (with_point kinds.Await at before) q
  form_points before at (AwaitCase cases) = cases_points at (with_point kinds.Await at before) cases
  form_points before at (Present e p q) = branch_points kinds.Else at (branch_points kinds.Then at before p) q
  form_points before at (PresentCase cases q) = branch_points kinds.Else at (cases_points at before cases) q
  form_points before at (Loop p) = points_after before p
  form_points before at (LoopEach p delay) = points_after before p
  form_points before at (Every delay p) = points_after before p
  form_points before at (Repeat count span p) = points_after before p
  form_points before at (Abort p delay q) = handler_points kinds.Do (points_after before p) q
  form_points before at (AbortCase p cases) = cases_points at (points_after before p) cases
  form_points before at (WeakAbort p delay) = points_after before p
  form_points before at (Suspend p delay) = points_after before p
  form_points before at (Trap p handler) = handler_points kinds.Handle (points_after before p) handler
  form_points before at (Exit k) = before
  form_points before at (Signal signals p) = points_after before p
  form_points before at (Seq parts) = stmts_points before parts
  form_points before at (Par parts) = stmts_points before parts

  -- a branch of a test: it has a point where it is not written, too
  pub branch_points : PointKind → Span → List Point → Part → List Point
  branch_points kind at before Missing = with_point kind at before
  branch_points kind at before (Written p) = points_after (with_point kind (stmt_place p) before) p

  -- what comes after a wait, an abortion or a trap, where it is written
  pub handler_points : PointKind → List Point → Part → List Point
  handler_points kind before Missing = before
  handler_points kind before (Written p) = points_after (with_point kind (stmt_place p) before) p

  pub stmts_points : List Point → Stmts → List Point
  stmts_points before NoStmts = before
  stmts_points before (MoreStmts p others) = stmts_points (points_after before p) others

  pub cases_points : Span → List Point → Cases → List Point
  cases_points at before NoCases = before
  cases_points at before (MoreCases event body others) =
      cases_points at (branch_points kinds.Case at before body) others

abbrev pub points_of : Flat → List Point
points_of flat = points_after [] flat.body

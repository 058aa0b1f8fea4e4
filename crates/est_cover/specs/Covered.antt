-- To believe: a program that shows which of its points are reached. It is a flat program with some more outgoing
-- signals, one for each point of a portion. The signal of a point is emitted where the point is, in front of what
-- starts there, and nowhere else. Nothing tests these signals. Else the program is the given one.
--
-- The number of a point is how many points are before it.
use Rattle.std.specs.Prelude.{ℕ, ◌+◌, ◌-◌, ◌^◌, Bool, ◌&&◌, nat_le, nat_lt, min, if◌then◌else◌, List, [], ◌++◌, map}
use Rattle.std.specs.Prelude.{drop, length, take}
use Rattle.base_types.specs.declared.place.Span.{Span}
use Rattle.est_ast.specs.FlatTrees.{Expr, Tick, Sig, Not, And, Or, Exprs, NoExprs, MoreExprs, Delay}
use Rattle.est_ast.specs.FlatTrees.{Plain, Immediate, Count, Stmt, At, Form, Nothing, Pause, Halt, Emit, Sustain, Await}
use Rattle.est_ast.specs.FlatTrees.{AwaitCase, Present, PresentCase, Loop, LoopEach, Every, Repeat, Abort, AbortCase}
use Rattle.est_ast.specs.FlatTrees.{WeakAbort, Suspend, Trap, Exit, Signal, Seq, Par, Part, Missing, Written, Stmts}
use Rattle.est_ast.specs.FlatTrees.{NoStmts, MoreStmts, Cases, NoCases, MoreCases, Flat}
use Rattle.est_cover.specs.declared.points.Point.{Point}
use Rattle.est_cover.specs.declared.points.PointKind.{PointKind}
use Rattle.est_cover.specs.declared.points.PointKind.TheVariants as kinds
use Rattle.est_cover.specs.Points.{stmt_place, with_point, points_after, branch_points, cases_points}

-- Points that follow one another, by the number of the first and how many they are, in a program that has this many
-- signals that the environment sees. Their signals come right after those.
pub record Portion : Type 0 where
  pub seen : ℕ
  pub first : ℕ
  pub count : ℕ

-- a signal of the given program in the new one; local signals make room for the new ones
abbrev pub moved : Portion → ℕ → ℕ
moved w s = if nat_lt s w.seen then s else min (s + w.count) (2 ^ 32 - 1)

abbrev mutual
  pub moved_test : Portion → Expr → Expr
  moved_test w (Tick span) = Tick span
  moved_test w (Sig s) = Sig (moved w s)
  moved_test w (Not e) = Not (moved_test w e)
  moved_test w (And parts) = And (moved_tests w parts)
  moved_test w (Or parts) = Or (moved_tests w parts)

  pub moved_tests : Portion → Exprs → Exprs
  moved_tests w NoExprs = NoExprs
  moved_tests w (MoreExprs e others) = MoreExprs (moved_test w e) (moved_tests w others)

abbrev pub moved_delay : Portion → Delay → Delay
moved_delay w (Plain event) = Plain (moved_test w event)
moved_delay w (Immediate event) = Immediate (moved_test w event)
moved_delay w (Count count span event) = Count count span (moved_test w event)

-- whether the point with this number is in the portion
abbrev pub is_in : Portion → ℕ → Bool
is_in w number = nat_le w.first number && nat_lt number (w.first + w.count)

-- the emission of the signal of the point with this number
abbrev pub emission : Portion → ℕ → Span → Stmt
emission w number at = At at (Emit (w.seen + (number - w.first)))

-- a statement that starts at the point with this number, with the emission in front
abbrev pub marked : Portion → ℕ → Span → Stmt → Stmt
marked w number at p =
    if is_in w number then At at (Seq (MoreStmts (emission w number at) (MoreStmts p NoStmts))) else p

-- A statement, where these are the points before it.
abbrev mutual
  pub covered_stmt : Portion → List Point → Stmt → Stmt
  covered_stmt w before (At at form) = covered_form w before at form

  pub covered_form : Portion → List Point → Span → Form → Stmt
  covered_form w before at Nothing = At at Nothing
  covered_form w before at Pause = marked w (length before) at (At at Pause)
  covered_form w before at Halt = marked w (length before) at (At at Halt)
  covered_form w before at (Emit s) = marked w (length before) at (At at (Emit (moved w s)))
  covered_form w before at (Sustain s) = marked w (length before) at (At at (Sustain (moved w s)))
  covered_form w before at (Await delay q) = marked w (length before) at
      (At at (Await (moved_delay w delay) (covered_handler w kinds.Do (with_point kinds.Await at before) q)))
  covered_form w before at (AwaitCase cases) =
      marked w (length before) at (At at (AwaitCase (covered_cases w at (with_point kinds.Await at before) cases)))
  covered_form w before at (Present e p q) = At at (Present (moved_test w e) (covered_branch w kinds.Then at before p)
      (covered_branch w kinds.Else at (branch_points kinds.Then at before p) q))
  covered_form w before at (PresentCase cases q) = At at (PresentCase (covered_cases w at before cases)
      (covered_branch w kinds.Else at (cases_points at before cases) q))
  covered_form w before at (Loop p) = At at (Loop (covered_stmt w before p))
  covered_form w before at (LoopEach p delay) = At at (LoopEach (covered_stmt w before p) (moved_delay w delay))
  covered_form w before at (Every delay p) = At at (Every (moved_delay w delay) (covered_stmt w before p))
  covered_form w before at (Repeat count span p) = At at (Repeat count span (covered_stmt w before p))
  covered_form w before at (Abort p delay q) = At at (Abort (covered_stmt w before p) (moved_delay w delay)
      (covered_handler w kinds.Do (points_after before p) q))
  covered_form w before at (AbortCase p cases) =
      At at (AbortCase (covered_stmt w before p) (covered_cases w at (points_after before p) cases))
  covered_form w before at (WeakAbort p delay) = At at (WeakAbort (covered_stmt w before p) (moved_delay w delay))
  covered_form w before at (Suspend p delay) = At at (Suspend (covered_stmt w before p) (moved_delay w delay))
  covered_form w before at (Trap p handler) =
      At at (Trap (covered_stmt w before p) (covered_handler w kinds.Handle (points_after before p) handler))
  covered_form w before at (Exit k) = At at (Exit k)
  covered_form w before at (Signal signals p) = At at (Signal (map (moved w) signals) (covered_stmt w before p))
  covered_form w before at (Seq parts) = At at (Seq (covered_stmts w before parts))
  covered_form w before at (Par parts) = At at (Par (covered_stmts w before parts))

  -- a branch of a test: where it is not written, the emission alone
  pub covered_branch : Portion → PointKind → Span → List Point → Part → Part
  covered_branch w kind at before Missing =
      if is_in w (length before) then Written (emission w (length before) at) else Missing
  covered_branch w kind at before (Written p) =
      Written (marked w (length before) (stmt_place p) (covered_stmt w (with_point kind (stmt_place p) before) p))

  pub covered_handler : Portion → PointKind → List Point → Part → Part
  covered_handler w kind before Missing = Missing
  covered_handler w kind before (Written p) =
      Written (marked w (length before) (stmt_place p) (covered_stmt w (with_point kind (stmt_place p) before) p))

  pub covered_stmts : Portion → List Point → Stmts → Stmts
  covered_stmts w before NoStmts = NoStmts
  covered_stmts w before (MoreStmts p others) =
      MoreStmts (covered_stmt w before p) (covered_stmts w (points_after before p) others)

  pub covered_cases : Portion → Span → List Point → Cases → Cases
  covered_cases w at before NoCases = NoCases
  covered_cases w at before (MoreCases event body others) =
      MoreCases (moved_test w event) (covered_branch w kinds.Case at before body)
      (covered_cases w at (branch_points kinds.Case at before body) others)

-- how many signals the environment sees of the given program
abbrev pub visible_count : Flat → ℕ
visible_count flat = flat.inputs + (flat.both + flat.outputs)

-- The program with new outgoing signals of these names, one for each of as many points, from the one with this number
-- on.
abbrev pub covered : Flat → (first : ℕ) → (names : List (List ℕ)) → Flat
covered flat first names = record {
  name = flat.name;
  signals = take (visible_count flat) flat.signals ++ (names ++ drop (visible_count flat) flat.signals);
  inputs = flat.inputs;
  both = flat.both;
  outputs = flat.outputs + length names;
  relations = flat.relations;
  body = covered_stmt (record { seen = visible_count flat; first = first; count = length names }) [] flat.body;
}

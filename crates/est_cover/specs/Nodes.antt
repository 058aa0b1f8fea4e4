-- Inner: points and covered statements at the nodes of the code. The definitions are closed, so that a proof sees one
-- row at a time.
use Rattle.std.specs.Prelude.{ℕ, Bool, if◌then◌else◌, List, [], ◌∷◌, map, Option}
use Rattle.std.specs.declared.alloc.Global.{Global}
use Rattle.std.specs.declared.boxed.Box.{Box}
use Rattle.base_types.specs.declared.indices.SigId.{SigId}
use Rattle.base_types.specs.declared.place.Span.{Span}
use Rattle.est_ast.specs.declared.flat.FlatCase.{FlatCase}
use Rattle.est_ast.specs.declared.flat.FlatDelay.{FlatDelay}
use Rattle.est_ast.specs.declared.flat.FlatExpr.{FlatExpr}
use Rattle.est_ast.specs.declared.flat.FlatForm.{FlatForm}
use Rattle.est_ast.specs.declared.flat.FlatStmt.{FlatStmt}
use Rattle.est_ast.specs.FlatTrees.{Expr, Delay, Stmt, Part, Missing, Written}
use Rattle.est_ast.specs.FlatViews.{flat_expr_of, flat_delay_of, flat_form_of, flat_stmt_of, flat_part_of}
use Rattle.est_ast.specs.FlatViews.{flat_body_of, flat_event_of}
use Rattle.est_cover.specs.declared.points.Point.{Point}
use Rattle.est_cover.specs.declared.points.PointKind.{PointKind}
use Rattle.est_cover.specs.declared.points.PointKind.TheVariants as kinds
use Rattle.est_cover.specs.declared.portions.Portion.{Portion}
use Rattle.est_cover.specs.Points.{points_after, form_points, branch_points, handler_points}
use Rattle.est_cover.specs.Covered as defined
use Rattle.est_cover.specs.Portions.{portion_of}

-- ---- points

unfoldable pub more_points : PointKind → Span → List Point → List Point
more_points kind at before = Rattle.est_cover.specs.Points.with_point kind at before

unfoldable pub stmt_points : List Point → FlatStmt → List Point
stmt_points before p = points_after before (flat_stmt_of p)

unfoldable pub node_points : List Point → Span → FlatForm → List Point
node_points before at form = form_points before at (flat_form_of form)

unfoldable pub part_points : PointKind → Span → List Point → Option (Box FlatStmt Global) → List Point
part_points kind at before q = branch_points kind at before (flat_part_of q)

unfoldable pub rest_points : PointKind → List Point → Option (Box FlatStmt Global) → List Point
rest_points kind before q = handler_points kind before (flat_part_of q)

unfoldable pub case_points : Span → List Point → FlatCase → List Point
case_points at before c = branch_points kinds.Case at before (flat_body_of c)

unfoldable pub list_points : List Point → List FlatStmt → List Point
list_points before [] = before
list_points before (p ∷ l) = list_points (stmt_points before p) l

unfoldable pub choice_points : Span → List Point → List FlatCase → List Point
choice_points at before [] = before
choice_points at before (c ∷ l) = choice_points at (case_points at before c) l

-- ---- covered statements

unfoldable pub signal_moved : Portion → ℕ → ℕ
signal_moved w s = defined.moved (portion_of w) s

unfoldable pub test_moved : Portion → FlatExpr → Expr
test_moved w e = defined.moved_test (portion_of w) (flat_expr_of e)

unfoldable pub delay_moved : Portion → FlatDelay → Delay
delay_moved w delay = defined.moved_delay (portion_of w) (flat_delay_of delay)

abbrev pub signals_moved : Portion → List SigId → List ℕ
signals_moved w signals = map (λ s. signal_moved w s.0) signals

unfoldable pub in_portion : Portion → ℕ → Bool
in_portion w number = defined.is_in (portion_of w) number

unfoldable pub with_mark : Portion → ℕ → Span → Stmt → Stmt
with_mark w number at p = defined.marked (portion_of w) number at p

-- a branch that is not written
unfoldable pub empty_covered : Portion → ℕ → Span → Part
empty_covered w number at =
    if defined.is_in (portion_of w) number then Written (defined.emission (portion_of w) number at) else Missing

unfoldable pub stmt_covered : Portion → List Point → FlatStmt → Stmt
stmt_covered w before p = defined.covered_stmt (portion_of w) before (flat_stmt_of p)

unfoldable pub node_covered : Portion → List Point → Span → FlatForm → Stmt
node_covered w before at form = defined.covered_form (portion_of w) before at (flat_form_of form)

unfoldable pub part_covered : Portion → PointKind → Span → List Point → Option (Box FlatStmt Global) → Part
part_covered w kind at before q = defined.covered_branch (portion_of w) kind at before (flat_part_of q)

unfoldable pub rest_covered : Portion → PointKind → List Point → Option (Box FlatStmt Global) → Part
rest_covered w kind before q = defined.covered_handler (portion_of w) kind before (flat_part_of q)

unfoldable pub case_covered : Portion → Span → List Point → FlatCase → Expr × Part
case_covered w at before c = (
  defined.moved_test (portion_of w) (flat_event_of c),
  defined.covered_branch (portion_of w) kinds.Case at before (flat_body_of c),
)

unfoldable pub list_covered : Portion → List Point → List FlatStmt → List Stmt
list_covered w before [] = []
list_covered w before (p ∷ l) = stmt_covered w before p ∷ list_covered w (stmt_points before p) l

unfoldable pub choices_covered : Portion → Span → List Point → List FlatCase → List (Expr × Part)
choices_covered w at before [] = []
choices_covered w at before (c ∷ l) = case_covered w at before c ∷ choices_covered w at (case_points at before c) l

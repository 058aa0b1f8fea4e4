-- Inner: the expansion at the nodes of the code. The definitions are closed, so that a proof sees one row at a time.
use Rattle.std.specs.Prelude.{ℕ, ◌+◌, List, [], ◌∷◌, map, Option, Some, None}
use Rattle.std.specs.declared.alloc.Global.{Global}
use Rattle.std.specs.declared.boxed.Box.{Box}
use Rattle.base_types.specs.declared.place.Span.{Span}
use Rattle.est_kernel.specs.Terms.{Term, Expression}
use Rattle.est_ast.specs.declared.flat.FlatCase.{FlatCase}
use Rattle.est_ast.specs.declared.flat.FlatDelay.{FlatDelay}
use Rattle.est_ast.specs.declared.flat.FlatExpr.{FlatExpr}
use Rattle.est_ast.specs.declared.flat.FlatForm.{FlatForm}
use Rattle.est_ast.specs.declared.flat.FlatStmt.{FlatStmt}
use Rattle.est_ast.specs.FlatTrees.{stmts, cases}
use Rattle.est_ast.specs.FlatViews.{flat_expr_of, flat_delay_of, flat_form_of, flat_stmt_of, flat_case_of, flat_part_of}
use Rattle.est_ast.specs.FlatViews.{flat_event_of, flat_body_of}
use Rattle.est_dismantle.specs.Kernels.{Traps, nested, expression, any_event, kernel, kernel_of_form, part}
use Rattle.est_dismantle.specs.Kernels.{kernels}
use Rattle.est_ast.specs.NewSignals.{new_by, new_in, new_in_form, new_in_part, new_in_stmts, new_in_cases}
use Rattle.est_dismantle.specs.Counts.{bad_count, bad_in_delay, bad_in, bad_in_form, bad_in_part, bad_in_stmts}
use Rattle.est_dismantle.specs.Counts.{bad_in_cases}
use Rattle.est_dismantle.specs.Measures.{Measures, test_measures, leaf, joined, kernel_measures, form_measures}
use Rattle.est_dismantle.specs.Measures.{part_measures, stmts_measures, cases_measures}
use Rattle.est_dismantle.specs.NewTraps.{traps_in, traps_in_form, traps_in_part, traps_in_stmts, traps_in_cases}

-- ---- the first bad count

abbrev pub first_place : List Span → Option Span
first_place [] = None
first_place (place ∷ places) = Some place

unfoldable pub bad_of_count : ℕ → Span → Option Span
bad_of_count count span = first_place (bad_count count span)

unfoldable pub bad_of_delay : FlatDelay → Option Span
bad_of_delay delay = first_place (bad_in_delay (flat_delay_of delay))

unfoldable pub bad_of_stmt : FlatStmt → Option Span
bad_of_stmt p = first_place (bad_in (flat_stmt_of p))

unfoldable pub bad_of_form : FlatForm → Option Span
bad_of_form form = first_place (bad_in_form (flat_form_of form))

unfoldable pub bad_of_part : Option (Box FlatStmt Global) → Option Span
bad_of_part q = first_place (bad_in_part (flat_part_of q))

unfoldable pub bad_of_stmts : List FlatStmt → Option Span
bad_of_stmts parts = first_place (bad_in_stmts (stmts (map flat_stmt_of parts)))

unfoldable pub bad_of_case : FlatCase → Option Span
bad_of_case c = first_place (bad_in_part (flat_body_of c))

unfoldable pub bad_of_cases : List FlatCase → Option Span
bad_of_cases list = first_place (bad_in_cases (cases (map flat_case_of list)))

-- ---- measures

unfoldable pub event_measures : FlatExpr → Measures
event_measures e = test_measures (expression (flat_expr_of e))

unfoldable pub events_measures : List FlatExpr → Measures
events_measures list = nested joined leaf (map event_measures list)

unfoldable pub case_events_measures : List FlatCase → Measures
case_events_measures list = test_measures (any_event (cases (map flat_case_of list)))

unfoldable pub stmt_measures : FlatStmt → Measures
stmt_measures p = kernel_measures (flat_stmt_of p)

unfoldable pub node_measures : FlatForm → Measures
node_measures form = form_measures (flat_form_of form)

unfoldable pub part_node_measures : Option (Box FlatStmt Global) → Measures
part_node_measures q = part_measures (flat_part_of q)

unfoldable pub parts_measures : List FlatStmt → Measures
parts_measures parts = nested joined leaf (stmts_measures (stmts (map flat_stmt_of parts)))

unfoldable pub case_measures : FlatCase → Measures
case_measures c = part_measures (flat_body_of c)

unfoldable pub chosen_measures : List FlatCase → Measures → Measures
chosen_measures list r = cases_measures (cases (map flat_case_of list)) r

-- ---- tests

unfoldable pub event_test : FlatExpr → Expression
event_test e = expression (flat_expr_of e)

unfoldable pub events_tests : List FlatExpr → List Expression
events_tests list = map event_test list

unfoldable pub case_test : FlatCase → Expression
case_test c = expression (flat_event_of c)

unfoldable pub any_event_test : List FlatCase → Expression
any_event_test list = any_event (cases (map flat_case_of list))

-- ---- new signals

unfoldable pub delay_new : FlatDelay → ℕ
delay_new delay = new_by (flat_delay_of delay)

unfoldable pub stmt_new : FlatStmt → ℕ
stmt_new p = new_in (flat_stmt_of p)

unfoldable pub node_new : FlatForm → ℕ
node_new form = new_in_form (flat_form_of form)

unfoldable pub part_new : Option (Box FlatStmt Global) → ℕ
part_new q = new_in_part (flat_part_of q)

unfoldable pub stmts_new : List FlatStmt → ℕ
stmts_new parts = new_in_stmts (stmts (map flat_stmt_of parts))

unfoldable pub case_new : FlatCase → ℕ
case_new c = new_in_part (flat_body_of c)

unfoldable pub cases_new : List FlatCase → ℕ
cases_new list = new_in_cases (cases (map flat_case_of list))

-- ---- kernel terms

unfoldable pub stmt_kernel : Traps → ℕ → FlatStmt → Term
stmt_kernel traps x p = kernel traps x (flat_stmt_of p)

unfoldable pub node_kernel : Traps → ℕ → Span → FlatForm → Term
node_kernel traps x at form = kernel_of_form traps x at (flat_form_of form)

unfoldable pub part_kernel : Traps → ℕ → Option (Box FlatStmt Global) → Term
part_kernel traps x q = part traps x (flat_part_of q)

unfoldable pub stmts_kernels : Traps → ℕ → List FlatStmt → List Term
stmts_kernels traps x parts = kernels traps x (stmts (map flat_stmt_of parts))

unfoldable pub case_choice : Traps → ℕ → FlatCase → Expression × Term
case_choice traps x c = (case_test c, part traps x (flat_body_of c))

unfoldable pub choices : Traps → ℕ → List FlatCase → List (Expression × Term)
choices traps x [] = []
choices traps x (c ∷ others) = case_choice traps x c ∷ choices traps (x + case_new c) others

-- ---- traps around exits

unfoldable pub stmt_traps : FlatStmt → ℕ
stmt_traps p = traps_in (flat_stmt_of p)

unfoldable pub node_traps : FlatForm → ℕ
node_traps form = traps_in_form (flat_form_of form)

unfoldable pub part_traps : Option (Box FlatStmt Global) → ℕ
part_traps q = traps_in_part (flat_part_of q)

unfoldable pub stmts_traps : List FlatStmt → ℕ
stmts_traps parts = traps_in_stmts (stmts (map flat_stmt_of parts))

unfoldable pub case_traps : FlatCase → ℕ
case_traps c = traps_in_part (flat_body_of c)

unfoldable pub cases_traps : List FlatCase → ℕ
cases_traps list = traps_in_cases (cases (map flat_case_of list))

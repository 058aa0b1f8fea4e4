-- Inner: tests and delays of each node of the code, with the numbers that the signals have in the covered program.
use Rattle.std.proofs.Common.{◌≡◌, ℕ, List, [], ◌∷◌, map, refl, ◌∙◌, ap}
use Rattle.std.specs.declared.alloc.Global.{Global}
use Rattle.std.specs.declared.boxed.Box.{Box}
use Rattle.std.specs.declared.vec.Vec.{Vec}
use Rattle.base_types.specs.declared.indices.SigId.{SigId}
use Rattle.base_types.specs.declared.place.Span.{Span}
use Rattle.est_ast.specs.declared.flat.FlatDelay.TheVariants as delays
use Rattle.est_ast.specs.declared.flat.FlatExpr.{FlatExpr}
use Rattle.est_ast.specs.declared.flat.FlatExpr.TheVariants as nodes
use Rattle.est_ast.specs.FlatTrees as trees
use Rattle.est_ast.specs.FlatTrees.{exprs}
use Rattle.est_ast.specs.FlatViews.{flat_expr_of}
use Rattle.est_ast.proofs.Exports.{flat_expr-And, flat_expr-Or}
use Rattle.est_cover.specs.declared.portions.Portion.{Portion}
use Rattle.est_cover.specs.Covered as defined
use Rattle.est_cover.specs.Portions.{portion_of}
use Rattle.est_cover.specs.Nodes.{signal_moved, test_moved, delay_moved}

tests-moved : (w : Portion) (l : List FlatExpr) → defined.moved_tests (portion_of w) (exprs (map flat_expr_of l)) ≡ exprs (map (test_moved w) l)
unfolding test_moved
tests-moved w [] = refl
tests-moved w (e ∷ l) = ap (trees.MoreExprs (test_moved w e)) (tests-moved w l)

pub test-Tick : (w : Portion) (span : Span) → test_moved w (nodes.Tick span) ≡ trees.Tick span
unfolding test_moved
test-Tick w span = refl

pub test-Sig : (w : Portion) (s : SigId) → test_moved w (nodes.Sig s) ≡ trees.Sig (signal_moved w s.0)
unfolding test_moved signal_moved
test-Sig w s = refl

pub test-Not : (w : Portion) (e : Box FlatExpr Global) → test_moved w (nodes.Not e) ≡ trees.Not (test_moved w e.value)
unfolding test_moved
test-Not w e = refl

pub test-And : (w : Portion) (v : Vec FlatExpr Global) → test_moved w (nodes.And v) ≡ trees.And (exprs (map (test_moved w) v.items))
unfolding test_moved
test-And w v = ap (defined.moved_test (portion_of w)) (flat_expr-And v) ∙ ap trees.And (tests-moved w v.items)

pub test-Or : (w : Portion) (v : Vec FlatExpr Global) → test_moved w (nodes.Or v) ≡ trees.Or (exprs (map (test_moved w) v.items))
unfolding test_moved
test-Or w v = ap (defined.moved_test (portion_of w)) (flat_expr-Or v) ∙ ap trees.Or (tests-moved w v.items)

pub ruleset test_rows = (test-Tick, test-Sig, test-Not, test-And, test-Or, flat_expr-And, flat_expr-Or)

pub delay-Plain : (w : Portion) (e : FlatExpr) → delay_moved w (delays.Plain e) ≡ trees.Plain (test_moved w e)
unfolding delay_moved test_moved
delay-Plain w e = refl

pub delay-Immediate : (w : Portion) (e : FlatExpr) → delay_moved w (delays.Immediate e) ≡ trees.Immediate (test_moved w e)
unfolding delay_moved test_moved
delay-Immediate w e = refl

pub delay-Count : (w : Portion) (n : ℕ) (span : Span) (e : FlatExpr) → delay_moved w (delays.Count n span e) ≡ trees.Count n span (test_moved w e)
unfolding delay_moved test_moved
delay-Count w n span e = refl

pub ruleset delay_rows = (delay-Plain, delay-Immediate, delay-Count)

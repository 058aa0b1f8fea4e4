use Rattle.std.proofs.Common.{◌≡◌, ◌∷◌, [], ◌++◌, map, drop, suc, sym, ap, ◌∙◌, Ok, arith, drop-cons, add-one}
use Rattle.std.proofs.lemmas.Result.{err_from_is_err_and}
use Rattle.std.proofs.lemmas.List.{map-append, drop_all}
use Rattle.est_ast.specs.FlatTrees as flat
use Rattle.est_ast.specs.FlatViews.{flat_expr_of}
use Rattle.est_ast.specs.Trees.{exprs}
use Rattle.est_ast.specs.Views.{expr_of}
use Rattle.est_ast.proofs.Exports.{flat_expr-And, flat_expr-Or}
use Rattle.est_expand.specs.Walks.{on_ok}
use Rattle.est_expand.specs.Tests.{tests}
use Rattle.est_expand.proofs.FoundLists.{fault_stays, value_passes, test-And, test-Or, exprs_behind, exprs_behind-step, before_exprs-all}
use Rattle.est_expand.proofs.expressions.+tests.Goals as goal

pub flat_test-returns-in_err-flat_tests-in-And : goal.flat_test-returns-in_err-flat_tests-in-And
flat_test-returns-in_err-flat_tests-in-And t c =
    let p = err_from_is_err_and c.from_residual-in_err-flat_tests-in-And.result c.from_residual-in_err-flat_tests-in-And.ensures.1 in
    rw (p.1, p.2) (λ fault is. test-And c.args.scope.now c.args.e.now c.in-And.parts c.in-And.is
    ∙ fault_stays _ _ fault (ap (λ parts. tests c.args.scope.now (exprs (map expr_of parts))) (sym c.deref-in-And.ensures.value)
    ∙ c.in_err-flat_tests-in-And.ensures fault is))

pub flat_test-returns-in_err-flat_tests-in-Or : goal.flat_test-returns-in_err-flat_tests-in-Or
flat_test-returns-in_err-flat_tests-in-Or t c =
    let p = err_from_is_err_and c.from_residual-in_err-flat_tests-in-Or.result c.from_residual-in_err-flat_tests-in-Or.ensures.1 in
    rw (p.1, p.2) (λ fault is. test-Or c.args.scope.now c.args.e.now c.in-Or.parts c.in-Or.is
    ∙ fault_stays _ _ fault (ap (λ parts. tests c.args.scope.now (exprs (map expr_of parts))) (sym c.deref-in-Or.ensures.value)
    ∙ c.in_err-flat_tests-in-Or.ensures fault is))

pub flat_test-returns-in_ok-flat_tests-in-And : goal.flat_test-returns-in_ok-flat_tests-in-And
flat_test-returns-in_ok-flat_tests-in-And t c =
    test-And c.args.scope.now c.args.e.now c.in-And.parts c.in-And.is
    ∙ value_passes _ _ _ (ap (λ parts. tests c.args.scope.now (exprs (map expr_of parts))) (sym c.deref-in-And.ensures.value)
    ∙ c.in_ok-flat_tests-in-And.ensures)
    ∙ ap Ok (sym (flat_expr-And c.in_ok-flat_tests-in-And.field-0))

pub flat_test-returns-in_ok-flat_tests-in-Or : goal.flat_test-returns-in_ok-flat_tests-in-Or
flat_test-returns-in_ok-flat_tests-in-Or t c =
    test-Or c.args.scope.now c.args.e.now c.in-Or.parts c.in-Or.is
    ∙ value_passes _ _ _ (ap (λ parts. tests c.args.scope.now (exprs (map expr_of parts))) (sym c.deref-in-Or.ensures.value) ∙ c.in_ok-flat_tests-in-Or.ensures)
    ∙ ap Ok (sym (flat_expr-Or c.in_ok-flat_tests-in-Or.field-0))

pub flat_tests-loop-e-preserved : goal.flat_tests-loop-e-preserved
flat_tests-loop-e-preserved t c =
    let parts = c.args.parts.now in
    let i = c.loop-e.e-index in
    let found = map flat_expr_of c.loop-e.found.items in
    let e = flat_expr_of c.in_ok-flat_test.field-0 in
    let rest = tests c.args.scope.now (exprs (map expr_of (drop (suc i) parts))) in
    let left : tests c.args.scope.now (exprs (map expr_of (drop i parts))) ≡ on_ok rest (λ others. Ok (flat.MoreExprs e others)) =
    ap (λ l. tests c.args.scope.now (exprs (map expr_of l))) (drop-cons parts i c.e-item.result (omega arith)
    ∙ ap (λ d. d ∷ drop (suc i) parts) (sym c.e-item.is))
    ∙ value_passes _ (λ e. on_ok rest (λ others. Ok (flat.MoreExprs e others))) e c.in_ok-flat_test.ensures in
    let items : map flat_expr_of c.push.new.self.items ≡ found ++ e ∷ [] = ap (map flat_expr_of) c.in_ok-push.ensures.items ∙ map-append _ _ _ in
    rw (add-one i) (ap (λ es. exprs_behind es rest) items ∙ sym (exprs_behind-step found e rest) ∙ sym (ap (exprs_behind found) left) ∙ c.loop-e.invariant)

pub flat_tests-returns : goal.flat_tests-returns
flat_tests-returns t c =
    let found = map flat_expr_of c.loop-e.found.items in
    sym c.loop-e.invariant
    ∙ ap (λ l. exprs_behind found (tests c.args.scope.now (exprs (map expr_of l)))) (drop_all c.loop-e.e-index c.args.parts.now (omega arith))
    ∙ ap Ok (before_exprs-all found)

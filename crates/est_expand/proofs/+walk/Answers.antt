use Rattle.std.proofs.Common.{◌≡◌, ◌∷◌, [], ◌++◌, map, drop, take, length, ◌-◌, ℕ, List}
use Rattle.std.proofs.Common.{Bor, false, suc, sym, ap, ◌∙◌, Ok, Err, arith, rules, drop-cons, add-one}
use Rattle.std.proofs.lemmas.Result.{err_from_is_err_and}
use Rattle.std.proofs.lemmas.List.{map-append, drop_all, length-map}
use Rattle.est_ast.specs.FlatTrees as flat
use Rattle.est_ast.specs.FlatViews.{flat_stmt_of, flat_case_of}
use Rattle.est_ast.specs.Trees as trees
use Rattle.est_ast.specs.Trees.{stmts, cases}
use Rattle.est_ast.specs.Views.{stmt_of, form_of, case_of, part_of, module_of}
use Rattle.est_ast.proofs.Exports.{flat_form-Seq, flat_form-Par, flat_form-AwaitCase, flat_form-PresentCase, flat_form-AbortCase}
use Rattle.est_expand.specs.Faults.{TooDeep}
use Rattle.est_expand.specs.Scopes.{binding}
use Rattle.est_expand.specs.Flattening.{each, each_case, part, row, flattening}
use Rattle.est_expand.specs.Views.{around_of, program_in, inside_of, site_walk, met_of, one_case}
use Rattle.est_expand.proofs.FoundLists.{fault_stays, value_passes}
use Rattle.est_expand.proofs.WalkSteps.{answers_along, stmts_behind, each-step, before_stmts-all}
use Rattle.est_expand.proofs.WalkSteps.{cases_behind, each_case-step, before_cases-all, drop-binding}
use Rattle.est_expand.proofs.WalkSteps.{chain_with-Ok, take-push, ran-inside, flattening-in, flattening-deep, flattening-uncounted}
use Rattle.est_expand.proofs.RowForms.{row-Seq, row-Par, row-AwaitCase, row-PresentCase, row-AbortCase}
use Rattle.est_expand.proofs.+walk.Goals as goal

-- ---- a second call: the first one has kept the traps

pub forms::flat_present-part-requires-2 : goal.forms::flat_present-part-requires-2
forms::flat_present-part-requires-2 t c = let kept = ap (λ a. length a.traps) c.in_ok-p.ensures.kept in search rules

pub forms::flat_present_case-part-requires : goal.forms::flat_present_case-part-requires
forms::flat_present_case-part-requires t c = let kept = ap (λ a. length a.traps) c.in_ok-cases.ensures.kept in search rules

pub forms::flat_abort-part-requires : goal.forms::flat_abort-part-requires
forms::flat_abort-part-requires t c = let kept = ap (λ a. length a.traps) c.in_ok-p.ensures.kept in search rules

pub forms::flat_abort_case-each_case-requires : goal.forms::flat_abort_case-each_case-requires
forms::flat_abort_case-each_case-requires t c = let kept = ap (λ a. length a.traps) c.in_ok-p.ensures.kept in search rules

pub binders::flat_trap-handler-requires : goal.binders::flat_trap-handler-requires
binders::flat_trap-handler-requires t c = let kept = ap (λ a. length a.traps) c.in_ok-p.ensures.kept in search rules

pub walk::each-walk-requires : goal.walk::each-walk-requires
walk::each-walk-requires t c = let kept = ap (λ a. length a.traps) c.loop-p.invariant.kept in search rules

pub walk::each_case-flat_case-requires : goal.walk::each_case-flat_case-requires
walk::each_case-flat_case-requires t c = let kept = ap (λ a. length a.traps) c.loop-case.invariant.kept in search rules

-- ---- lists

pub walk::each-loop-p-preserved : goal.walk::each-loop-p-preserved
walk::each-loop-p-preserved t c =
    let source = c.args.source.now in
    let inside = inside_of source (around_of c.args.around.now) in
    let parts = c.args.parts.now in
    let i = c.loop-p.p-index in
    let found = map flat_stmt_of c.loop-p.found.items in
    let p = flat_stmt_of c.in_ok-walk.field-0 in
    let others = stmts (map stmt_of (drop (suc i) parts)) in
    let met = met_of c.loop-p.met in
    let met' = met_of c.walk.new.met in
    let first = drop-cons parts i c.p-item.result (omega arith) ∙ ap (λ s. s ∷ drop (suc i) parts) (sym c.p-item.is) in
    let walked : inside (stmt_of c.p-item.result) met ≡ Ok (p, met') =
    ap (λ a. inside_of source a (stmt_of c.p-item.result) met) (sym c.loop-p.invariant.kept) ∙ c.in_ok-walk.ensures.walks in
    let items : map flat_stmt_of c.push.new.self.items ≡ found ++ p ∷ [] = ap (map flat_stmt_of) c.in_ok-push.ensures.items ∙ map-append _ _ _ in
    record {
      kept = c.in_ok-walk.ensures.kept ∙ c.loop-p.invariant.kept;
      left = rw (add-one i) (ap (λ ps. stmts_behind ps (each inside others met')) items
          ∙ sym (each-step inside found (stmt_of c.p-item.result) others met met' p walked)
          ∙ sym (ap (λ l. stmts_behind found (each inside (stmts (map stmt_of l)) met)) first) ∙ c.loop-p.invariant.left);
    }

pub walk::each-returns-clause-walks : goal.walk::each-returns-clause-walks
walk::each-returns-clause-walks t c =
    let inside = inside_of c.args.source.now (around_of c.args.around.now) in
    let found = map flat_stmt_of c.loop-p.found.items in
    let met = met_of c.loop-p.met in
    sym c.loop-p.invariant.left
    ∙ ap (λ l. stmts_behind found (each inside (stmts (map stmt_of l)) met)) (drop_all c.loop-p.p-index c.args.parts.now (omega arith))
    ∙ ap (λ l. Ok (l, met)) (before_stmts-all found)

pub walk::each_case-loop-case-preserved : goal.walk::each_case-loop-case-preserved
walk::each_case-loop-case-preserved t c =
    let source = c.args.source.now in
    let scope = c.args.around.now.scope in
    let inside = inside_of source (around_of c.args.around.now) in
    let list = c.args.cases.now in
    let i = c.loop-case.case-index in
    let found = map flat_case_of c.loop-case.found.items in
    let d = flat_case_of c.in_ok-flat_case.field-0 in
    let others = cases (map case_of (drop (suc i) list)) in
    let met = met_of c.loop-case.met in
    let met' = met_of c.flat_case.new.met in
    let first = drop-cons list i c.case-item.result (omega arith) ∙ ap (λ s. s ∷ drop (suc i) list) (sym c.case-item.is) in
    let walked : one_case scope inside (case_of c.case-item.result) met ≡ Ok (d, met') =
    ap (λ a. one_case a.scope (inside_of source a) (case_of c.case-item.result) met) (sym c.loop-case.invariant.kept) ∙ c.in_ok-flat_case.ensures.walks in
    let items : map flat_case_of c.push.new.self.items ≡ found ++ d ∷ [] = ap (map flat_case_of) c.in_ok-push.ensures.items ∙ map-append _ _ _ in
    record {
      kept = c.in_ok-flat_case.ensures.kept ∙ c.loop-case.invariant.kept;
      left = rw (add-one i) (ap (λ cs. cases_behind cs (each_case scope inside others met')) items
          ∙ sym (each_case-step scope inside found (case_of c.case-item.result) others met met' d walked)
          ∙ sym (ap (λ l. cases_behind found (each_case scope inside (cases (map case_of l)) met)) first) ∙ c.loop-case.invariant.left);
    }

pub walk::each_case-returns-clause-walks : goal.walk::each_case-returns-clause-walks
walk::each_case-returns-clause-walks t c =
    let inside = inside_of c.args.source.now (around_of c.args.around.now) in
    let found = map flat_case_of c.loop-case.found.items in
    let met = met_of c.loop-case.met in
    sym c.loop-case.invariant.left
    ∙ ap (λ l. cases_behind found (each_case c.args.around.now.scope inside (cases (map case_of l)) met))
    (drop_all c.loop-case.case-index c.args.cases.now (omega arith))
    ∙ ap (λ l. Ok (l, met)) (before_cases-all found)

-- ---- statements that hold a list

pub forms::flat_await_case-returns-clause-walks : goal.forms::flat_await_case-returns-clause-walks
forms::flat_await_case-returns-clause-walks t c =
    value_passes _ _ _ c.in_ok-cases.ensures.walks
    ∙ ap (λ f. Ok (flat.At c.args.site.now.span f, met_of c.each_case.new.met)) (sym (flat_form-AwaitCase c.in_ok-cases.cases))

pub forms::flat_present_case-returns-clause-walks : goal.forms::flat_present_case-returns-clause-walks
forms::flat_present_case-returns-clause-walks t c =
    value_passes _ _ _ c.in_ok-cases.ensures.walks
    ∙ value_passes _ _ _ (ap (λ a. part (inside_of c.args.site.now.source a) (part_of c.args.q.now) (met_of c.each_case.new.met))
    (sym c.in_ok-cases.ensures.kept) ∙ c.in_ok-q.ensures.walks)
    ∙ ap (λ f. Ok (flat.At c.args.site.now.span f, met_of c.part.new.met)) (sym (flat_form-PresentCase c.in_ok-cases.cases c.in_ok-q.q))

pub forms::flat_abort_case-returns-clause-walks : goal.forms::flat_abort_case-returns-clause-walks
forms::flat_abort_case-returns-clause-walks t c =
    value_passes _ _ _ c.in_ok-p.ensures.walks
    ∙ value_passes _ _ _ (ap (λ a. each_case a.scope (inside_of c.args.site.now.source a) (cases (map case_of c.args.cases.now)) (met_of c.boxed.new.met))
    (sym c.in_ok-p.ensures.kept) ∙ c.in_ok-cases.ensures.walks)
    ∙ ap (λ f. Ok (flat.At c.args.site.now.span f, met_of c.each_case.new.met)) (sym (flat_form-AbortCase c.in_ok-p.p c.in_ok-cases.cases))

pub forms::flat_seq-returns-clause-walks : goal.forms::flat_seq-returns-clause-walks
forms::flat_seq-returns-clause-walks t c =
    value_passes _ _ _ c.in_ok-parts.ensures.walks
    ∙ ap (λ f. Ok (flat.At c.args.site.now.span f, met_of c.each.new.met)) (sym (flat_form-Seq c.in_ok-parts.parts))

pub forms::flat_par-returns-clause-walks : goal.forms::flat_par-returns-clause-walks
forms::flat_par-returns-clause-walks t c =
    value_passes _ _ _ c.in_ok-parts.ensures.walks
    ∙ ap (λ f. Ok (flat.At c.args.site.now.span f, met_of c.each.new.met)) (sym (flat_form-Par c.in_ok-parts.parts))

-- ---- the choice among the forms

pub walk::row-returns-in-AwaitCase-clause-walks : goal.walk::row-returns-in-AwaitCase-clause-walks
walk::row-returns-in-AwaitCase-clause-walks t c =
    let site = c.args.site.now in
    let around = around_of c.args.around.now in
    let met = met_of c.args.met.now in
    answers_along (λ value. (flat_stmt_of value, met_of c.flat_await_case.new.met)) c.flat_await_case.result _ _
    (ap (λ w. w met) (row-AwaitCase site.source around site.span c.args.form.now c.in-AwaitCase.cases c.in-AwaitCase.is)
    ∙ ap (λ l. site_walk site around (trees.AwaitCase (cases (map case_of l))) met) (sym c.deref.ensures.value))
    c.flat_await_case.ensures.walks

pub walk::row-returns-in-PresentCase-clause-walks : goal.walk::row-returns-in-PresentCase-clause-walks
walk::row-returns-in-PresentCase-clause-walks t c =
    let site = c.args.site.now in
    let around = around_of c.args.around.now in
    let met = met_of c.args.met.now in
    answers_along (λ value. (flat_stmt_of value, met_of c.flat_present_case.new.met)) c.flat_present_case.result _ _
    (ap (λ w. w met) (row-PresentCase site.source around site.span c.args.form.now c.in-PresentCase.cases c.in-PresentCase.q c.in-PresentCase.is)
    ∙ ap (λ l. site_walk site around (trees.PresentCase (cases (map case_of l)) (part_of c.in-PresentCase.q)) met)
    (sym c.deref-in-PresentCase.ensures.value))
    c.flat_present_case.ensures.walks

pub walk::row-returns-in-AbortCase-clause-walks : goal.walk::row-returns-in-AbortCase-clause-walks
walk::row-returns-in-AbortCase-clause-walks t c =
    let site = c.args.site.now in
    let around = around_of c.args.around.now in
    let met = met_of c.args.met.now in
    answers_along (λ value. (flat_stmt_of value, met_of c.flat_abort_case.new.met)) c.flat_abort_case.result _ _
    (ap (λ w. w met) (row-AbortCase site.source around site.span c.args.form.now c.in-AbortCase.p c.in-AbortCase.cases c.in-AbortCase.is)
    ∙ ap (λ l. site_walk site around (trees.AbortCase (stmt_of c.in-AbortCase.p.value) (cases (map case_of l))) met) (sym
    c.deref-in-AbortCase-2.ensures.value)
    ∙ ap (λ s. site_walk site around (trees.AbortCase (stmt_of s) (cases (map case_of c.deref-in-AbortCase-2.result.now))) met)
    (sym c.deref-in-AbortCase.ensures))
    c.flat_abort_case.ensures.walks

pub walk::row-returns-in-Seq-clause-walks : goal.walk::row-returns-in-Seq-clause-walks
walk::row-returns-in-Seq-clause-walks t c =
    let site = c.args.site.now in
    let around = around_of c.args.around.now in
    let met = met_of c.args.met.now in
    answers_along (λ value. (flat_stmt_of value, met_of c.flat_seq.new.met)) c.flat_seq.result _ _
    (ap (λ w. w met) (row-Seq site.source around site.span c.args.form.now c.in-Seq.parts c.in-Seq.is)
    ∙ ap (λ l. site_walk site around (trees.Seq (stmts (map stmt_of l))) met) (sym c.deref-in-Seq.ensures.value))
    c.flat_seq.ensures.walks

pub walk::row-returns-in-Par-clause-walks : goal.walk::row-returns-in-Par-clause-walks
walk::row-returns-in-Par-clause-walks t c =
    let site = c.args.site.now in
    let around = around_of c.args.around.now in
    let met = met_of c.args.met.now in
    answers_along (λ value. (flat_stmt_of value, met_of c.flat_par.new.met)) c.flat_par.result _ _
    (ap (λ w. w met) (row-Par site.source around site.span c.args.form.now c.in-Par.parts c.in-Par.is)
    ∙ ap (λ l. site_walk site around (trees.Par (stmts (map stmt_of l))) met) (sym c.deref-in-Par.ensures.value))
    c.flat_par.ensures.walks

pub walk::row-returns-in-Signal-clause-walks : goal.walk::row-returns-in-Signal-clause-walks
walk::row-returns-in-Signal-clause-walks t c =
    let site = c.args.site.now in
    let around = around_of c.args.around.now in
    let met = met_of c.args.met.now in
    answers_along (λ value. (flat_stmt_of value, met_of c.flat_signal.new.met)) c.flat_signal.result _ _
    (ap (λ f. site_walk site around (form_of f) met) c.in-Signal.is
    ∙ ap (λ names. site_walk site around (trees.Signal names (stmt_of c.in-Signal.p.value)) met) (sym c.deref-in-Signal.ensures.value)
    ∙ ap (λ s. site_walk site around (trees.Signal c.deref-in-Signal.result.now (stmt_of s)) met) (sym c.deref-in-Signal-2.ensures))
    c.flat_signal.ensures.walks

-- ---- local signals

pub binders::flat_signal-returns-clause-kept : goal.binders::flat_signal-returns-clause-kept
binders::flat_signal-returns-clause-kept t c =
    let names = map (λ (n : Bor (List ℕ)). n.now) c.deref-2.result.now in
    let scope = c.args.around.now.scope in
    let kept = c.in_ok-p.ensures.kept in
    let count : c.len.result ≡ length names = omega (
      arith,
      c.len.ensures,
      c.deref-2.ensures.len,
      length-map c.deref-2.result.now (λ (n : Bor (List ℕ)). n.now),
    )
    in
    let back : c.unbind_all.new.self ≡ scope =
    c.unbind_all.ensures ∙ ap (drop c.len.result) (ap (λ a. a.scope) kept ∙ c.in_ok-bind_all.ensures)
    ∙ ap (λ n. drop n (binding false names c.in_ok-first.first scope)) count ∙ drop-binding false names c.in_ok-first.first scope in
    λ i. record { scope = back i; traps = (kept i).traps; chain = (kept i).chain }

-- ---- runs

pub binders::run-returns-in_err-p-clause-walks : goal.binders::run-returns-in_err-p-clause-walks
binders::run-returns-in_err-p-clause-walks t c =
    let p = err_from_is_err_and c.from_residual-in_err-p.result c.from_residual-in_err-p.ensures.1 in
    let source = c.args.source.now in
    let met = met_of c.args.met.now in
    let m = c.in_ok-module.module.now in
    rw (p.1, p.2) (λ fault is. ran-inside (program_in source) source.inputs (inside_of source) (around_of c.args.around.now) c.args.name.now
    c.args.renames.now
    (module_of m) c.enter.new.chain c.in_ok-scope.scope met c.in_ok-module.ensures c.in_ok-enter.ensures c.in_ok-scope.ensures
    ∙ (λ i. inside_of source (record { scope = c.in_ok-scope.scope; traps = sym c.new-traps.ensures i; chain = sym c.swap.ensures.y_after i })
    (stmt_of m.body) met)
    ∙ c.in_err-p.ensures.walks fault is)

pub binders::run-returns-clause-walks : goal.binders::run-returns-clause-walks
binders::run-returns-clause-walks t c =
    let source = c.args.source.now in
    let met = met_of c.args.met.now in
    let m = c.in_ok-module.module.now in
    ran-inside (program_in source) source.inputs (inside_of source) (around_of c.args.around.now) c.args.name.now c.args.renames.now
    (module_of m) c.enter.new.chain c.in_ok-scope.scope met c.in_ok-module.ensures c.in_ok-enter.ensures c.in_ok-scope.ensures
    ∙ (λ i. inside_of source (record { scope = c.in_ok-scope.scope; traps = sym c.new-traps.ensures i; chain = sym c.swap.ensures.y_after i })
    (stmt_of m.body) met)
    ∙ c.in_ok-p.ensures.walks

pub binders::run-returns-clause-kept : goal.binders::run-returns-clause-kept
binders::run-returns-clause-kept t c =
    let around = c.args.around.now in
    let entered = chain_with-Ok around.chain c.args.name.now c.enter.new.chain c.in_ok-enter.ensures in
    let last = c.swap-2.ensures.x_after ∙ ap (λ a. a.chain) c.in_ok-p.ensures.kept ∙ c.swap.ensures.y_after ∙ entered in
    let back = c.pop.ensures ∙ ap (λ l. take (length l - 1) l) last ∙ take-push around.chain c.args.name.now.text in
    λ i. record { scope = around.scope; traps = around.traps; chain = back i }

-- ---- statements

pub walk::walk-returns-in_err-meet_statement-clause-walks : goal.walk::walk-returns-in_err-meet_statement-clause-walks
walk::walk-returns-in_err-meet_statement-clause-walks t c =
    let p = err_from_is_err_and c.from_residual.result c.from_residual.ensures.1 in
    let source = c.args.source.now in
    rw (p.1, p.2) (λ fault is. flattening-uncounted (program_in source) source.inputs source.room (around_of c.args.around.now) c.args.statement.now.span
    (form_of c.args.statement.now.form) (met_of c.args.met.now) fault (c.in_err-meet_statement.ensures fault is))

pub walk::walk-returns-in_default-clause-walks : goal.walk::walk-returns-in_default-clause-walks
walk::walk-returns-in_default-clause-walks t c = λ fault is.
    let source = c.args.source.now in
    let met = met_of c.args.met.now in
    let the : TooDeep ≡ fault = cc in
    flattening-deep (program_in source) source.inputs source.room (around_of c.args.around.now) c.args.statement.now.span
    (form_of c.args.statement.now.form) met c.in_default.ensures.none
    ∙ value_passes _ _ _ c.in_ok-meet_statement.ensures ∙ ap Err the

pub walk::walk-returns-clause-walks : goal.walk::walk-returns-clause-walks
walk::walk-returns-clause-walks t c =
    let source = c.args.source.now in
    let inner = c.in-Some.inner in
    let some = c.in-Some.ensures.some in
    let around = around_of c.args.around.now in
    let span = c.args.statement.now.span in
    let form = form_of c.args.statement.now.form in
    let met = met_of c.args.met.now in
    let met' = met_of c.meet_statement.new.self in
    answers_along (λ value. (flat_stmt_of value, met_of c.row.new.met)) c.row.result _ _
    (flattening-in (program_in source) source.inputs source.room inner.room around span form met some.3
    ∙ value_passes _ _ _ c.in_ok-meet_statement.ensures
    ∙ ap (λ ms. row (map module_of ms.now) source.inputs (flattening (map module_of ms.now) source.inputs inner.room) around span form met') (sym some.0)
    ∙ ap (λ n. row (program_in inner) n (flattening (program_in inner) n inner.room) around span form met') (sym some.2))
    c.row.ensures.walks

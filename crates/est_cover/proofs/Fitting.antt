-- Inner: a covered statement fits where the given one does.
use Rattle.std.proofs.Common.{◌≡◌, ℕ, ◌+◌, ◌-◌, ◌^◌, ◌<◌, ◌≤◌, ◌==◌, ◌||◌, Bool, true, false, nat_le, nat_lt, cond, min, List, [], ◌∷◌, length, map}
use Rattle.std.proofs.Common.{refl, sym, ap, ◌∙◌, subst, arith, IsTrue, ◌⊎◌, inl, inr}
use Rattle.std.proofs.lemmas.Bool.{eq-eqb, eqb-true, lt-ltb, le-ltb, leb-true, ltb-true, and_parts}
use Rattle.std.specs.Prelude.{if◌then◌else◌}
use Rattle.base_types.specs.declared.place.Span.{Span}
use Rattle.est_ast.specs.FlatTrees.{Expr, Tick, Sig, Not, And, Or, Exprs, NoExprs, MoreExprs, Delay, Plain, Immediate, Count, Stmt, At, Form}
use Rattle.est_ast.specs.FlatTrees.{Nothing, Pause, Halt, Emit, Sustain, Await, AwaitCase, Present, PresentCase, Loop, LoopEach, Every, Repeat, Abort}
use Rattle.est_ast.specs.FlatTrees.{AbortCase, WeakAbort, Suspend, Trap, Exit, Signal, Seq, Par, Part, Missing, Written, Stmts, NoStmts, MoreStmts, Cases}
use Rattle.est_ast.specs.FlatTrees.{NoCases, MoreCases}
use Rattle.est_ast.specs.FlatFits.{Scope, binding, in_signals, in_trap, TestFits, TestsFit, DelayFits, AreLocal, Fits, FormFits, PartFits, AllFit, CasesFit}
use Rattle.est_cover.specs.declared.points.Point.{Point}
use Rattle.est_cover.specs.declared.points.PointKind.{PointKind}
use Rattle.est_cover.specs.declared.points.PointKind.TheVariants as kinds
use Rattle.est_cover.specs.Points.{stmt_place, with_point, points_after, branch_points, cases_points}
use Rattle.est_cover.specs.Covered.{Portion, moved, moved_test, moved_tests, moved_delay, is_in, emission, marked, covered_stmt, covered_form, covered_branch}
use Rattle.est_cover.specs.Covered.{covered_handler, covered_stmts, covered_cases}

-- one of two is true
either : (a b : Bool) → IsTrue a ⊎ IsTrue b → IsTrue (a || b)
either true b h = refl
either false b (inl h) = absurd (cc)
either false b (inr h) = h

-- ---- numbers

pub moved-low : (w : Portion) (s : ℕ) → s < w.seen → moved w s ≡ s
moved-low w s h = ap (λ b. cond b s (min (s + w.count) (2 ^ 32 - 1))) (lt-ltb s w.seen h)

pub moved-high : (w : Portion) (s : ℕ) → w.seen ≤ s → s + w.count < 2 ^ 32 → moved w s ≡ s + w.count
moved-high w s h few = ap (λ b. cond b s (min (s + w.count) (2 ^ 32 - 1))) (le-ltb s w.seen h) ∙ omega (arith, few)

-- a number stays or grows
moved-least : (w : Portion) (least s : ℕ) → least ≤ s → s + w.count < 2 ^ 32 → least ≤ moved w s
moved-least w least s h few = go (nat_lt s w.seen) refl
  where
    go : (b : Bool) → nat_lt s w.seen ≡ b → least ≤ moved w s
    go true is = subst (λ m. least ≤ m) (sym (ap (λ b. cond b s (min (s + w.count) (2 ^ 32 - 1))) is)) h
    go false is = subst (λ m. least ≤ m) (sym (ap (λ b. cond b s (min (s + w.count) (2 ^ 32 - 1))) is)) (omega (arith, h, few))

-- ---- what is visible

-- what is visible here is visible there, by its new number, and so are the new signals
pub record Moves (w : Portion) (all : ℕ) (v u : ℕ → Bool) : Type 0 where
  pub moves : (s : ℕ) → IsTrue (v s) → IsTrue (u (moved w s))
  pub low : (s : ℕ) → IsTrue (v s) → s < all
  pub new : (s : ℕ) → w.seen ≤ s → s < w.seen + w.count → IsTrue (u s)

bind-moves : (w : Portion) (all s t : ℕ) (v u : ℕ → Bool) → Moves w all v u → IsTrue (t == s || v t) → IsTrue (moved w t == moved w s || u (moved w t))
bind-moves w all s t v u m h = go (t == s) refl h
  where
    go : (b : Bool) → (t == s) ≡ b → IsTrue (b || v t) → IsTrue (moved w t == moved w s || u (moved w t))
    go true is h = either (moved w t == moved w s) (u (moved w t)) (inl (eq-eqb (moved w t) (moved w s) (ap (moved w) (eqb-true t s is))))
    go false is h = either (moved w t == moved w s) (u (moved w t)) (inr (m.moves t h))

bind-low : (w : Portion) (all s t : ℕ) (v u : ℕ → Bool) → Moves w all v u → s < all → IsTrue (t == s || v t) → t < all
bind-low w all s t v u m low h = go (t == s) refl h
  where
    go : (b : Bool) → (t == s) ≡ b → IsTrue (b || v t) → t < all
    go true is h = omega (arith, low, eqb-true t s is)
    go false is h = m.low t h

bound : (w : Portion) (all s : ℕ) (v u : ℕ → Bool) → Moves w all v u → s < all → Moves w all (λ t. t == s || v t) (λ t. t == moved w s || u t)
bound w all s v u m low = record {
  moves = λ t h. bind-moves w all s t v u m h;
  low = λ t h. bind-low w all s t v u m low h;
  new = λ t a b. either (t == moved w s) (u t) (inr (m.new t a b));
}

mutual
  test-fits : (w : Portion) (all : ℕ) (v u : ℕ → Bool) (e : Expr) → Moves w all v u → TestFits v e → TestFits u (moved_test w e)
  test-fits w all v u (Tick span) m h = tt
  test-fits w all v u (Sig s) m h = m.moves s h
  test-fits w all v u (Not e) m h = test-fits w all v u e m h
  test-fits w all v u (And parts) m h = tests-fit w all v u parts m h
  test-fits w all v u (Or parts) m h = tests-fit w all v u parts m h

  tests-fit : (w : Portion) (all : ℕ) (v u : ℕ → Bool) (es : Exprs) → Moves w all v u → TestsFit v es → TestsFit u (moved_tests w es)
  tests-fit w all v u NoExprs m h = tt
  tests-fit w all v u (MoreExprs e es) m h = (test-fits w all v u e m h.0, tests-fit w all v u es m h.1)

delay-fits : (w : Portion) (all : ℕ) (v u : ℕ → Bool) (d : Delay) → Moves w all v u → DelayFits v d → DelayFits u (moved_delay w d)
delay-fits w all v u (Plain event) m h = test-fits w all v u event m h
delay-fits w all v u (Immediate event) m h = test-fits w all v u event m h
delay-fits w all v u (Count count span event) m h = test-fits w all v u event m h

-- ---- statements

-- in a program that has this many inputs, interface signals and signals in all
module _ (inputs seen all first n : ℕ) (given : inputs ≤ seen) (few : all + n < 2 ^ 32) where
  abbrev pub w : Portion
  w = record { seen = seen; first = first; count = n }

  pub record Opens (scope outer : Scope) : Type 0 where
    pub visible : Moves w all scope.visible outer.visible
    pub traps : outer.traps ≡ scope.traps

  abbrev pub Fitting : Scope → Stmt → Type 0
  Fitting = Fits inputs (seen + n) (all + n)

  in-trap : (scope outer : Scope) → Opens scope outer → Opens (in_trap scope) (in_trap outer)
  in-trap scope outer o = record { visible = o.visible; traps = ap (λ k. k + 1) o.traps }

  bindings : (l : List ℕ) (v u : ℕ → Bool) → AreLocal inputs seen all l → Moves w all v u → Moves w all (binding l v) (binding (map (moved w) l) u)
  bindings [] v u local m = m
  bindings (s ∷ l) v u local m = bindings l (λ t. t == s || v t) (λ t. t == moved w s || u t) local.2 (bound w all s v u m local.1)

  locals-moved : (l : List ℕ) → AreLocal inputs seen all l → AreLocal inputs (seen + n) (all + n) (map (moved w) l)
  locals-moved [] local = tt
  locals-moved (s ∷ l) local =
      let is = moved-high w s local.0 (omega (arith, local.1, few)) in
      (omega (arith, is, local.0), omega (arith, is, local.1), locals-moved l local.2)

  in-signals : (l : List ℕ) (scope outer : Scope) → AreLocal inputs seen all l → Opens scope outer →
      Opens (in_signals l scope) (in_signals (map (moved w) l) outer)
  in-signals l scope outer local o = record { visible = bindings l scope.visible outer.visible local o.visible; traps = o.traps }

  mark-fits : (scope outer : Scope) (number : ℕ) (at : Span) → Opens scope outer → is_in w number ≡ true → Fitting outer (emission w number at)
  mark-fits scope outer number at o is =
      let parts = and_parts (nat_le first number) (nat_lt number (first + n)) is in
      let low = leb-true first number parts.0 in
      let high = ltb-true number (first + n) parts.1 in
      (o.visible.new (seen + (number - first)) (omega arith) (omega (arith, low, high)), omega (arith, given))

  marked-fits : (scope outer : Scope) (number : ℕ) (at : Span) (p : Stmt) → Opens scope outer → Fitting outer p → Fitting outer (marked w number at p)
  marked-fits scope outer number at p o h = go (is_in w number) refl
    where
      go : (b : Bool) → is_in w number ≡ b
          → Fitting outer (if b then At at (Seq (MoreStmts (emission w number at) (MoreStmts p NoStmts))) else p)
      go true is = (mark-fits scope outer number at o is, (h, tt))
      go false is = h

  emitted : (scope outer : Scope) (s : ℕ) → Opens scope outer → IsTrue (scope.visible s) × (inputs ≤ s) →
      IsTrue (outer.visible (moved w s)) × (inputs ≤ moved w s)
  emitted scope outer s o h = (o.visible.moves s h.0, moved-least w inputs s h.1 (omega (arith, o.visible.low s h.0, few)))

  empty-fits : (scope outer : Scope) (number : ℕ) (at : Span) → Opens scope outer →
      PartFits inputs (seen + n) (all + n) outer (if is_in w number then Written (emission w number at) else Missing)
  empty-fits scope outer number at o = go (is_in w number) refl
    where
      go : (b : Bool) → is_in w number ≡ b → PartFits inputs (seen + n) (all + n) outer (if b then Written (emission w number at) else Missing)
      go true is = mark-fits scope outer number at o is
      go false is = tt

  mutual
    pub stmt-fits : (scope outer : Scope) (before : List Point) (p : Stmt) → Opens scope outer → Fits inputs seen all scope p →
        Fitting outer (covered_stmt w before p)
    stmt-fits scope outer before (At at form) o h = form-fits scope outer before at form o h

    form-fits : (scope outer : Scope) (before : List Point) (at : Span) (form : Form) → Opens scope outer → FormFits inputs seen all scope form →
        Fitting outer (covered_form w before at form)
    form-fits scope outer before at Nothing o h = tt
    form-fits scope outer before at Pause o h = marked-fits scope outer (length before) at (At at Pause) o tt
    form-fits scope outer before at Halt o h = marked-fits scope outer (length before) at (At at Halt) o tt
    form-fits scope outer before at (Emit s) o h =
        marked-fits scope outer (length before) at (At at (Emit (moved w s))) o (emitted scope outer s o h)
    form-fits scope outer before at (Sustain s) o h =
        marked-fits scope outer (length before) at (At at (Sustain (moved w s))) o (emitted scope outer s o h)
    form-fits scope outer before at (Await delay q) o h =
        marked-fits scope outer (length before) at _ o
        (delay-fits w all scope.visible outer.visible delay o.visible h.0, handler-fits scope outer kinds.Do (with_point kinds.Await at before) q o h.1)
    form-fits scope outer before at (AwaitCase cases) o h =
        marked-fits scope outer (length before) at _ o (cases-fit scope outer at (with_point kinds.Await at before) cases o h)
    form-fits scope outer before at (Present e p q) o h = (
      test-fits w all scope.visible outer.visible e o.visible h.0,
      branch-fits scope outer kinds.Then at before p o h.1,
      branch-fits scope outer kinds.Else at (branch_points kinds.Then at before p) q o h.2,
    )
    form-fits scope outer before at (PresentCase cases q) o h =
        (cases-fit scope outer at before cases o h.0, branch-fits scope outer kinds.Else at (cases_points at before cases) q o h.1)
    form-fits scope outer before at (Loop p) o h = stmt-fits scope outer before p o h
    form-fits scope outer before at (LoopEach p delay) o h =
        (stmt-fits scope outer before p o h.0, delay-fits w all scope.visible outer.visible delay o.visible h.1)
    form-fits scope outer before at (Every delay p) o h =
        (delay-fits w all scope.visible outer.visible delay o.visible h.0, stmt-fits scope outer before p o h.1)
    form-fits scope outer before at (Repeat count span p) o h = stmt-fits scope outer before p o h
    form-fits scope outer before at (Abort p delay q) o h = (
      stmt-fits scope outer before p o h.0,
      delay-fits w all scope.visible outer.visible delay o.visible h.1,
      handler-fits scope outer kinds.Do (points_after before p) q o h.2,
    )
    form-fits scope outer before at (AbortCase p cases) o h =
        (stmt-fits scope outer before p o h.0, cases-fit scope outer at (points_after before p) cases o h.1)
    form-fits scope outer before at (WeakAbort p delay) o h =
        (stmt-fits scope outer before p o h.0, delay-fits w all scope.visible outer.visible delay o.visible h.1)
    form-fits scope outer before at (Suspend p delay) o h =
        (stmt-fits scope outer before p o h.0, delay-fits w all scope.visible outer.visible delay o.visible h.1)
    form-fits scope outer before at (Trap p handler) o h = (
      stmt-fits (in_trap scope) (in_trap outer) before p (in-trap scope outer o) h.0,
      handler-fits scope outer kinds.Handle (points_after before p) handler o h.1,
    )
    form-fits scope outer before at (Exit k) o h = omega (arith, h, o.traps)
    form-fits scope outer before at (Signal signals p) o h = (
      locals-moved signals h.0,
      stmt-fits (in_signals signals scope) (in_signals (map (moved w) signals) outer) before p (in-signals signals scope outer h.0 o) h.1,
    )
    form-fits scope outer before at (Seq parts) o h = all-fit scope outer before parts o h
    form-fits scope outer before at (Par parts) o h = all-fit scope outer before parts o h

    branch-fits : (scope outer : Scope) (kind : PointKind) (at : Span) (before : List Point) (q : Part) → Opens scope outer →
        PartFits inputs seen all scope q → PartFits inputs (seen + n) (all + n) outer (covered_branch w kind at before q)
    branch-fits scope outer kind at before Missing o h = empty-fits scope outer (length before) at o
    branch-fits scope outer kind at before (Written p) o h =
        marked-fits scope outer (length before) (stmt_place p) _ o (stmt-fits scope outer (with_point kind (stmt_place p) before) p o h)

    handler-fits : (scope outer : Scope) (kind : PointKind) (before : List Point) (q : Part) → Opens scope outer →
        PartFits inputs seen all scope q → PartFits inputs (seen + n) (all + n) outer (covered_handler w kind before q)
    handler-fits scope outer kind before Missing o h = tt
    handler-fits scope outer kind before (Written p) o h =
        marked-fits scope outer (length before) (stmt_place p) _ o (stmt-fits scope outer (with_point kind (stmt_place p) before) p o h)

    all-fit : (scope outer : Scope) (before : List Point) (parts : Stmts) → Opens scope outer → AllFit inputs seen all scope parts →
        AllFit inputs (seen + n) (all + n) outer (covered_stmts w before parts)
    all-fit scope outer before NoStmts o h = tt
    all-fit scope outer before (MoreStmts p others) o h =
        (stmt-fits scope outer before p o h.0, all-fit scope outer (points_after before p) others o h.1)

    cases-fit : (scope outer : Scope) (at : Span) (before : List Point) (cases : Cases) → Opens scope outer → CasesFit inputs seen all scope cases →
        CasesFit inputs (seen + n) (all + n) outer (covered_cases w at before cases)
    cases-fit scope outer at before NoCases o h = tt
    cases-fit scope outer at before (MoreCases event body others) o h = (
      test-fits w all scope.visible outer.visible event o.visible h.0,
      branch-fits scope outer kinds.Case at before body o h.1,
      cases-fit scope outer at (branch_points kinds.Case at before body) others o h.2,
    )

  -- a whole body
  pub body-fits : (scope outer : Scope) (p : Stmt) → scope.visible ≡ (λ s. nat_lt s seen) → outer.visible ≡ (λ s. nat_lt s (seen + n))
      → scope.traps ≡ outer.traps → seen ≤ all → Fits inputs seen all scope p → Fitting outer (covered_stmt w [] p)
  body-fits scope outer p is grown same within h = stmt-fits scope outer [] p (record {
    visible = record {
      moves = λ s v. ap (λ f. f (moved w s)) grown ∙ lt-ltb (moved w s) (seen + n)
          (let low = ltb-true s seen (sym (ap (λ f. f s) is) ∙ v) in omega (arith, low, moved-low w s low));
      low = λ s v. let low = ltb-true s seen (sym (ap (λ f. f s) is) ∙ v) in omega (arith, low, within);
      new = λ s a b. ap (λ f. f s) grown ∙ lt-ltb s (seen + n) b;
    };
    traps = sym same;
  }) h

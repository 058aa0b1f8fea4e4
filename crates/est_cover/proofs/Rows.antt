-- Inner: the points and the covered statement of each node of the code.
use Rattle.std.proofs.Common.{◌≡◌, ℕ, ◌+◌, ◌<◌, ◌≤◌, List, [], ◌∷◌, length, map, drop, get_or, Option, Some, None, refl, sym, ◌∙◌, ap}
use Rattle.std.proofs.Common.{true, false, ◌++◌, append_assoc, append-nil, nat_le, nat_lt}
use Rattle.std.proofs.lemmas.Bool.{and_parts, leb-true, ltb-true}
use Rattle.std.proofs.Math.ListN.{drop_of_length-le}
use Rattle.std.specs.declared.alloc.Global.{Global}
use Rattle.std.specs.declared.boxed.Box.{Box}
use Rattle.std.specs.declared.vec.Vec.{Vec}
use Rattle.base_facts.proofs.Lists.{drop-at}
use Rattle.base_types.specs.declared.indices.SigId.{SigId}
use Rattle.base_types.specs.declared.place.Span.{Span}
use Rattle.est_ast.specs.declared.flat.FlatCase.{FlatCase, FlatCase', FlatCase-body-None', FlatCase-body-Some', out-FlatCase}
use Rattle.est_ast.specs.declared.flat.FlatDelay.{FlatDelay}
use Rattle.est_ast.specs.declared.flat.FlatExpr.{FlatExpr}
use Rattle.est_ast.specs.declared.flat.FlatForm.TheVariants as forms
use Rattle.est_ast.specs.declared.flat.FlatStmt.{FlatStmt}
use Rattle.est_ast.specs.FlatTrees as trees
use Rattle.est_ast.specs.FlatTrees.{At, Expr, Stmt, Part, Missing, Written, stmts, cases}
use Rattle.est_ast.specs.FlatViews.{flat_case_of, flat_form_of, flat_part_of, flat_stmt_of}
use Rattle.est_ast.proofs.Exports.{flat_form-Seq, flat_form-Par, flat_form-AwaitCase, flat_form-PresentCase, flat_form-AbortCase}
use Rattle.est_cover.specs.declared.points.Point.{Point}
use Rattle.est_cover.specs.declared.points.PointKind.{PointKind}
use Rattle.est_cover.specs.declared.points.PointKind.TheVariants as kinds
use Rattle.est_cover.specs.declared.portions.Portion.{Portion}
use Rattle.est_cover.specs.Points.{form_points, points_after, stmts_points, cases_points}
use Rattle.est_cover.specs.Covered as defined
use Rattle.est_cover.specs.Portions.{portion_of}
use Rattle.est_cover.specs.Nodes.{more_points, stmt_points, node_points, part_points, rest_points, case_points, list_points, choice_points}
use Rattle.est_cover.specs.Nodes.{signal_moved, test_moved, delay_moved, signals_moved, in_portion, with_mark, empty_covered, stmt_covered, node_covered}
use Rattle.est_cover.specs.Nodes.{part_covered, rest_covered, case_covered, list_covered, choices_covered}

-- ---- lists of statements and of cases

list-points : (before : List Point) (l : List FlatStmt) → stmts_points before (stmts (map flat_stmt_of l)) ≡ list_points before l
unfolding list_points stmt_points
list-points before [] = refl
list-points before (p ∷ l) = list-points (stmt_points before p) l

choice-points : (at : Span) (before : List Point) (l : List FlatCase) → cases_points at before (cases (map flat_case_of l)) ≡ choice_points at before l
unfolding choice_points case_points
choice-points at before [] = refl
choice-points at before (c ∷ l) = choice-points at (case_points at before c) l

list-covered : (w : Portion) (before : List Point) (l : List FlatStmt) →
    defined.covered_stmts (portion_of w) before (stmts (map flat_stmt_of l)) ≡ stmts (list_covered w before l)
unfolding list_covered stmt_covered stmt_points
list-covered w before [] = refl
list-covered w before (p ∷ l) = ap (trees.MoreStmts (stmt_covered w before p)) (list-covered w (stmt_points before p) l)

choices-covered : (w : Portion) (at : Span) (before : List Point) (l : List FlatCase) →
    defined.covered_cases (portion_of w) at before (cases (map flat_case_of l)) ≡ cases (choices_covered w at before l)
unfolding choices_covered case_covered case_points
choices-covered w at before [] = refl
choices-covered w at before (c ∷ l) =
    ap (trees.MoreCases (case_covered w at before c).0 (case_covered w at before c).1) (choices-covered w at (case_points at before c) l)

signals-moved : (w : Portion) (l : List SigId) → map (defined.moved (portion_of w)) (map (λ s. s.0) l) ≡ signals_moved w l
unfolding signal_moved
signals-moved w [] = refl
signals-moved w (s ∷ l) = ap (λ m. signal_moved w s.0 ∷ m) (signals-moved w l)

-- ---- points

pub points-stmt : (before : List Point) (p : FlatStmt) → stmt_points before p ≡ node_points before p.span p.form
unfolding stmt_points node_points
points-stmt before p = refl

pub points-Nothing : (before : List Point) (at : Span) → node_points before at forms.Nothing ≡ before
unfolding node_points stmt_points part_points rest_points more_points
points-Nothing before at = refl

pub points-Exit : (before : List Point) (at : Span) (k : ℕ) → node_points before at (forms.Exit k) ≡ before
unfolding node_points stmt_points part_points rest_points more_points
points-Exit before at k = refl

pub points-Pause : (before : List Point) (at : Span) → node_points before at forms.Pause ≡ more_points kinds.Pause at before
unfolding node_points stmt_points part_points rest_points more_points
points-Pause before at = refl

pub points-Halt : (before : List Point) (at : Span) → node_points before at forms.Halt ≡ more_points kinds.Halt at before
unfolding node_points stmt_points part_points rest_points more_points
points-Halt before at = refl

pub points-Emit : (before : List Point) (at : Span) (s : SigId) → node_points before at (forms.Emit s) ≡ more_points kinds.Emit at before
unfolding node_points stmt_points part_points rest_points more_points
points-Emit before at s = refl

pub points-Sustain : (before : List Point) (at : Span) (s : SigId) → node_points before at (forms.Sustain s) ≡ more_points kinds.Sustain at before
unfolding node_points stmt_points part_points rest_points more_points
points-Sustain before at s = refl

pub points-Await : (before : List Point) (at : Span) (d : FlatDelay) (q : Option (Box FlatStmt Global)) → node_points before at (forms.Await d q)
    ≡ rest_points kinds.Do (more_points kinds.Await at before) q
unfolding node_points stmt_points part_points rest_points more_points
points-Await before at d q = refl

pub points-AwaitCase : (before : List Point) (at : Span) (v : Vec FlatCase Global) → node_points before at (forms.AwaitCase v)
    ≡ choice_points at (more_points kinds.Await at before) v.items
unfolding node_points stmt_points part_points rest_points more_points
points-AwaitCase before at v = ap (form_points before at) (flat_form-AwaitCase v) ∙ choice-points at (more_points kinds.Await at before) v.items

pub points-Present : (before : List Point) (at : Span) (e : FlatExpr) (p q : Option (Box FlatStmt Global)) → node_points before at (forms.Present e p q)
    ≡ part_points kinds.Else at (part_points kinds.Then at before p) q
unfolding node_points stmt_points part_points rest_points more_points
points-Present before at e p q = refl

pub points-PresentCase : (before : List Point) (at : Span) (v : Vec FlatCase Global) (q : Option (Box FlatStmt Global))
    → node_points before at (forms.PresentCase v q) ≡ part_points kinds.Else at (choice_points at before v.items) q
unfolding node_points stmt_points part_points rest_points more_points
points-PresentCase before at v q =
    ap (form_points before at) (flat_form-PresentCase v q) ∙ ap (λ ps. part_points kinds.Else at ps q) (choice-points at before v.items)

pub points-Loop : (before : List Point) (at : Span) (p : Box FlatStmt Global) → node_points before at (forms.Loop p) ≡ stmt_points before p.value
unfolding node_points stmt_points part_points rest_points more_points
points-Loop before at p = refl

pub points-LoopEach : (before : List Point) (at : Span) (p : Box FlatStmt Global) (d : FlatDelay) → node_points before at (forms.LoopEach p d)
    ≡ stmt_points before p.value
unfolding node_points stmt_points part_points rest_points more_points
points-LoopEach before at p d = refl

pub points-Every : (before : List Point) (at : Span) (d : FlatDelay) (p : Box FlatStmt Global) → node_points before at (forms.Every d p)
    ≡ stmt_points before p.value
unfolding node_points stmt_points part_points rest_points more_points
points-Every before at d p = refl

pub points-Repeat : (before : List Point) (at : Span) (n : ℕ) (span : Span) (p : Box FlatStmt Global) → node_points before at (forms.Repeat n span p)
    ≡ stmt_points before p.value
unfolding node_points stmt_points part_points rest_points more_points
points-Repeat before at n span p = refl

pub points-Abort : (before : List Point) (at : Span) (p : Box FlatStmt Global) (d : FlatDelay) (q : Option (Box FlatStmt Global))
    → node_points before at (forms.Abort p d q) ≡ rest_points kinds.Do (stmt_points before p.value) q
unfolding node_points stmt_points part_points rest_points more_points
points-Abort before at p d q = refl

pub points-AbortCase : (before : List Point) (at : Span) (p : Box FlatStmt Global) (v : Vec FlatCase Global) → node_points before at (forms.AbortCase p v)
    ≡ choice_points at (stmt_points before p.value) v.items
unfolding node_points stmt_points part_points rest_points more_points
points-AbortCase before at p v = ap (form_points before at) (flat_form-AbortCase p v) ∙ choice-points at (stmt_points before p.value) v.items

pub points-WeakAbort : (before : List Point) (at : Span) (p : Box FlatStmt Global) (d : FlatDelay) → node_points before at (forms.WeakAbort p d)
    ≡ stmt_points before p.value
unfolding node_points stmt_points part_points rest_points more_points
points-WeakAbort before at p d = refl

pub points-Suspend : (before : List Point) (at : Span) (p : Box FlatStmt Global) (d : FlatDelay) → node_points before at (forms.Suspend p d)
    ≡ stmt_points before p.value
unfolding node_points stmt_points part_points rest_points more_points
points-Suspend before at p d = refl

pub points-Trap : (before : List Point) (at : Span) (p : Box FlatStmt Global) (q : Option (Box FlatStmt Global)) → node_points before at (forms.Trap p q)
    ≡ rest_points kinds.Handle (stmt_points before p.value) q
unfolding node_points stmt_points part_points rest_points more_points
points-Trap before at p q = refl

pub points-Signal : (before : List Point) (at : Span) (v : Vec SigId Global) (p : Box FlatStmt Global) → node_points before at (forms.Signal v p)
    ≡ stmt_points before p.value
unfolding node_points stmt_points part_points rest_points more_points
points-Signal before at v p = refl

pub points-Seq : (before : List Point) (at : Span) (v : Vec FlatStmt Global) → node_points before at (forms.Seq v) ≡ list_points before v.items
unfolding node_points stmt_points part_points rest_points more_points
points-Seq before at v = ap (form_points before at) (flat_form-Seq v) ∙ list-points before v.items

pub points-Par : (before : List Point) (at : Span) (v : Vec FlatStmt Global) → node_points before at (forms.Par v) ≡ list_points before v.items
unfolding node_points stmt_points part_points rest_points more_points
points-Par before at v = ap (form_points before at) (flat_form-Par v) ∙ list-points before v.items

pub points-part_missing : (kind : PointKind) (at : Span) (before : List Point) → part_points kind at before None ≡ more_points kind at before
unfolding part_points more_points
points-part_missing kind at before = refl

pub points-part_written : (kind : PointKind) (at : Span) (before : List Point) (p : Box FlatStmt Global) →
    part_points kind at before (Some p) ≡ stmt_points (more_points kind p.value.span before) p.value
unfolding part_points more_points stmt_points
points-part_written kind at before p = refl

pub points-rest_missing : (kind : PointKind) (before : List Point) → rest_points kind before None ≡ before
unfolding rest_points
points-rest_missing kind before = refl

pub points-rest_written : (kind : PointKind) (before : List Point) (p : Box FlatStmt Global) →
    rest_points kind before (Some p) ≡ stmt_points (more_points kind p.value.span before) p.value
unfolding rest_points more_points stmt_points
points-rest_written kind before p = refl

-- ---- covered statements

pub covers-stmt : (w : Portion) (before : List Point) (p : FlatStmt) → stmt_covered w before p ≡ node_covered w before p.span p.form
unfolding stmt_covered node_covered
covers-stmt w before p = refl

pub covers-Nothing : (w : Portion) (before : List Point) (at : Span) → node_covered w before at forms.Nothing
    ≡ At at trees.Nothing
unfolding node_covered stmt_covered part_covered rest_covered with_mark signal_moved test_moved delay_moved more_points part_points stmt_points
covers-Nothing w before at = refl

pub covers-Exit : (w : Portion) (before : List Point) (at : Span) (k : ℕ) → node_covered w before at (forms.Exit k)
    ≡ At at (trees.Exit k)
unfolding node_covered stmt_covered part_covered rest_covered with_mark signal_moved test_moved delay_moved more_points part_points stmt_points
covers-Exit w before at k = refl

pub covers-Pause : (w : Portion) (before : List Point) (at : Span) → node_covered w before at forms.Pause
    ≡ with_mark w (length before) at (At at trees.Pause)
unfolding node_covered stmt_covered part_covered rest_covered with_mark signal_moved test_moved delay_moved more_points part_points stmt_points
covers-Pause w before at = refl

pub covers-Halt : (w : Portion) (before : List Point) (at : Span) → node_covered w before at forms.Halt
    ≡ with_mark w (length before) at (At at trees.Halt)
unfolding node_covered stmt_covered part_covered rest_covered with_mark signal_moved test_moved delay_moved more_points part_points stmt_points
covers-Halt w before at = refl

pub covers-Emit : (w : Portion) (before : List Point) (at : Span) (s : SigId) → node_covered w before at (forms.Emit s)
    ≡ with_mark w (length before) at (At at (trees.Emit (signal_moved w s.0)))
unfolding node_covered stmt_covered part_covered rest_covered with_mark signal_moved test_moved delay_moved more_points part_points stmt_points
covers-Emit w before at s = refl

pub covers-Sustain : (w : Portion) (before : List Point) (at : Span) (s : SigId) → node_covered w before at (forms.Sustain s)
    ≡ with_mark w (length before) at (At at (trees.Sustain (signal_moved w s.0)))
unfolding node_covered stmt_covered part_covered rest_covered with_mark signal_moved test_moved delay_moved more_points part_points stmt_points
covers-Sustain w before at s = refl

pub covers-Await : (w : Portion) (before : List Point) (at : Span) (d : FlatDelay) (q : Option (Box FlatStmt Global))
    → node_covered w before at (forms.Await d q)
    ≡ with_mark w (length before) at (At at (trees.Await (delay_moved w d) (rest_covered w kinds.Do (more_points kinds.Await at before) q)))
unfolding node_covered stmt_covered part_covered rest_covered with_mark signal_moved test_moved delay_moved more_points part_points stmt_points
covers-Await w before at d q = refl

pub covers-AwaitCase : (w : Portion) (before : List Point) (at : Span) (v : Vec FlatCase Global) → node_covered w before at (forms.AwaitCase v)
    ≡ with_mark w (length before) at (At at (trees.AwaitCase (cases (choices_covered w at (more_points kinds.Await at before) v.items))))
unfolding node_covered stmt_covered part_covered rest_covered with_mark signal_moved test_moved delay_moved more_points part_points stmt_points
covers-AwaitCase w before at v =
    ap (defined.covered_form (portion_of w) before at) (flat_form-AwaitCase v) ∙ ap (λ l. with_mark w (length before) at (At at (trees.AwaitCase l)))
    (choices-covered w at (more_points kinds.Await at before) v.items)

pub covers-Present : (w : Portion) (before : List Point) (at : Span) (e : FlatExpr) (p q : Option (Box FlatStmt Global))
    → node_covered w before at (forms.Present e p q)
    ≡ At at (trees.Present (test_moved w e) (part_covered w kinds.Then at before p) (part_covered w kinds.Else at (part_points kinds.Then at before p) q))
unfolding node_covered stmt_covered part_covered rest_covered with_mark signal_moved test_moved delay_moved more_points part_points stmt_points
covers-Present w before at e p q = refl

pub covers-PresentCase : (w : Portion) (before : List Point) (at : Span) (v : Vec FlatCase Global) (q : Option (Box FlatStmt Global))
    → node_covered w before at (forms.PresentCase v q)
    ≡ At at (trees.PresentCase (cases (choices_covered w at before v.items)) (part_covered w kinds.Else at (choice_points at before v.items) q))
unfolding node_covered stmt_covered part_covered rest_covered with_mark signal_moved test_moved delay_moved more_points part_points stmt_points
covers-PresentCase w before at v q =
    ap (defined.covered_form (portion_of w) before at) (flat_form-PresentCase v q)
    ∙ ap (λ l. At at (trees.PresentCase l (part_covered w kinds.Else at (cases_points at before (cases (map flat_case_of v.items))) q)))
    (choices-covered w at before v.items)
    ∙ ap (λ ps. At at (trees.PresentCase (cases (choices_covered w at before v.items)) (part_covered w kinds.Else at ps q))) (choice-points at before v.items)

-- the whole statement of made parts
pub covers-present_case : (w : Portion) (before after : List Point) (at : Span) (l : List FlatCase) (v made : Vec FlatCase Global)
    (q rest : Option (Box FlatStmt Global)) → l ≡ v.items → map flat_case_of made.items ≡ choices_covered w at before l → after ≡ choice_points at before l
    → flat_part_of rest ≡ part_covered w kinds.Else at after q
    → At at (flat_form_of (forms.PresentCase made rest)) ≡ node_covered w before at (forms.PresentCase v q)
covers-present_case w before after at l v made q rest is choices points part =
    ap (At at) (flat_form-PresentCase made rest)
    ∙ ap (λ m. At at (trees.PresentCase (cases m) (flat_part_of rest))) (choices ∙ ap (choices_covered w at before) is)
    ∙ ap (λ b. At at (trees.PresentCase (cases (choices_covered w at before v.items)) b))
    (part ∙ ap (λ ps. part_covered w kinds.Else at ps q) (points ∙ ap (choice_points at before) is)) ∙ sym (covers-PresentCase w before at v q)

pub covers-Loop : (w : Portion) (before : List Point) (at : Span) (p : Box FlatStmt Global) → node_covered w before at (forms.Loop p)
    ≡ At at (trees.Loop (stmt_covered w before p.value))
unfolding node_covered stmt_covered part_covered rest_covered with_mark signal_moved test_moved delay_moved more_points part_points stmt_points
covers-Loop w before at p = refl

pub covers-LoopEach : (w : Portion) (before : List Point) (at : Span) (p : Box FlatStmt Global) (d : FlatDelay)
    → node_covered w before at (forms.LoopEach p d)
    ≡ At at (trees.LoopEach (stmt_covered w before p.value) (delay_moved w d))
unfolding node_covered stmt_covered part_covered rest_covered with_mark signal_moved test_moved delay_moved more_points part_points stmt_points
covers-LoopEach w before at p d = refl

pub covers-Every : (w : Portion) (before : List Point) (at : Span) (d : FlatDelay) (p : Box FlatStmt Global) → node_covered w before at (forms.Every d p)
    ≡ At at (trees.Every (delay_moved w d) (stmt_covered w before p.value))
unfolding node_covered stmt_covered part_covered rest_covered with_mark signal_moved test_moved delay_moved more_points part_points stmt_points
covers-Every w before at d p = refl

pub covers-Repeat : (w : Portion) (before : List Point) (at : Span) (n : ℕ) (span : Span) (p : Box FlatStmt Global)
    → node_covered w before at (forms.Repeat n span p)
    ≡ At at (trees.Repeat n span (stmt_covered w before p.value))
unfolding node_covered stmt_covered part_covered rest_covered with_mark signal_moved test_moved delay_moved more_points part_points stmt_points
covers-Repeat w before at n span p = refl

pub covers-Abort : (w : Portion) (before : List Point) (at : Span) (p : Box FlatStmt Global) (d : FlatDelay) (q : Option (Box FlatStmt Global))
    → node_covered w before at (forms.Abort p d q)
    ≡ At at (trees.Abort (stmt_covered w before p.value) (delay_moved w d) (rest_covered w kinds.Do (stmt_points before p.value) q))
unfolding node_covered stmt_covered part_covered rest_covered with_mark signal_moved test_moved delay_moved more_points part_points stmt_points
covers-Abort w before at p d q = refl

pub covers-AbortCase : (w : Portion) (before : List Point) (at : Span) (p : Box FlatStmt Global) (v : Vec FlatCase Global)
    → node_covered w before at (forms.AbortCase p v)
    ≡ At at (trees.AbortCase (stmt_covered w before p.value) (cases (choices_covered w at (stmt_points before p.value) v.items)))
unfolding node_covered stmt_covered part_covered rest_covered with_mark signal_moved test_moved delay_moved more_points part_points stmt_points
covers-AbortCase w before at p v =
    ap (defined.covered_form (portion_of w) before at) (flat_form-AbortCase p v)
    ∙ ap (λ l. At at (trees.AbortCase (stmt_covered w before p.value) l)) (choices-covered w at (stmt_points before p.value) v.items)

pub covers-WeakAbort : (w : Portion) (before : List Point) (at : Span) (p : Box FlatStmt Global) (d : FlatDelay)
    → node_covered w before at (forms.WeakAbort p d)
    ≡ At at (trees.WeakAbort (stmt_covered w before p.value) (delay_moved w d))
unfolding node_covered stmt_covered part_covered rest_covered with_mark signal_moved test_moved delay_moved more_points part_points stmt_points
covers-WeakAbort w before at p d = refl

pub covers-Suspend : (w : Portion) (before : List Point) (at : Span) (p : Box FlatStmt Global) (d : FlatDelay) → node_covered w before at (forms.Suspend p d)
    ≡ At at (trees.Suspend (stmt_covered w before p.value) (delay_moved w d))
unfolding node_covered stmt_covered part_covered rest_covered with_mark signal_moved test_moved delay_moved more_points part_points stmt_points
covers-Suspend w before at p d = refl

pub covers-Trap : (w : Portion) (before : List Point) (at : Span) (p : Box FlatStmt Global) (q : Option (Box FlatStmt Global))
    → node_covered w before at (forms.Trap p q)
    ≡ At at (trees.Trap (stmt_covered w before p.value) (rest_covered w kinds.Handle (stmt_points before p.value) q))
unfolding node_covered stmt_covered part_covered rest_covered with_mark signal_moved test_moved delay_moved more_points part_points stmt_points
covers-Trap w before at p q = refl

pub covers-Signal : (w : Portion) (before : List Point) (at : Span) (v : Vec SigId Global) (p : Box FlatStmt Global)
    → node_covered w before at (forms.Signal v p)
    ≡ At at (trees.Signal (signals_moved w v.items) (stmt_covered w before p.value))
unfolding node_covered stmt_covered part_covered rest_covered with_mark signal_moved test_moved delay_moved more_points part_points stmt_points
covers-Signal w before at v p = ap (λ l. At at (trees.Signal l (stmt_covered w before p.value))) (signals-moved w v.items)

pub covers-Seq : (w : Portion) (before : List Point) (at : Span) (v : Vec FlatStmt Global) → node_covered w before at (forms.Seq v)
    ≡ At at (trees.Seq (stmts (list_covered w before v.items)))
unfolding node_covered stmt_covered part_covered rest_covered with_mark signal_moved test_moved delay_moved more_points part_points stmt_points
covers-Seq w before at v =
    ap (defined.covered_form (portion_of w) before at) (flat_form-Seq v) ∙ ap (λ l. At at (trees.Seq l)) (list-covered w before v.items)

pub covers-Par : (w : Portion) (before : List Point) (at : Span) (v : Vec FlatStmt Global) → node_covered w before at (forms.Par v)
    ≡ At at (trees.Par (stmts (list_covered w before v.items)))
unfolding node_covered stmt_covered part_covered rest_covered with_mark signal_moved test_moved delay_moved more_points part_points stmt_points
covers-Par w before at v =
    ap (defined.covered_form (portion_of w) before at) (flat_form-Par v) ∙ ap (λ l. At at (trees.Par l)) (list-covered w before v.items)

pub covers-part_missing : (w : Portion) (kind : PointKind) (at : Span) (before : List Point) →
    part_covered w kind at before None ≡ empty_covered w (length before) at
unfolding part_covered empty_covered
covers-part_missing w kind at before = refl

pub covers-part_written : (w : Portion) (kind : PointKind) (at : Span) (before : List Point) (p : Box FlatStmt Global)
    → part_covered w kind at before (Some p)
    ≡ Written (with_mark w (length before) p.value.span (stmt_covered w (more_points kind p.value.span before) p.value))
unfolding part_covered with_mark stmt_covered more_points
covers-part_written w kind at before p = refl

pub covers-rest_missing : (w : Portion) (kind : PointKind) (before : List Point) → rest_covered w kind before None ≡ Missing
unfolding rest_covered
covers-rest_missing w kind before = refl

pub covers-rest_written : (w : Portion) (kind : PointKind) (before : List Point) (p : Box FlatStmt Global) → rest_covered w kind before (Some p)
    ≡ Written (with_mark w (length before) p.value.span (stmt_covered w (more_points kind p.value.span before) p.value))
unfolding rest_covered with_mark stmt_covered more_points
covers-rest_written w kind before p = refl

pub empty-in : (w : Portion) (number : ℕ) (at : Span) → in_portion w number ≡ true →
    empty_covered w number at ≡ Written (defined.emission (portion_of w) number at)
unfolding empty_covered in_portion
empty-in w number at h = rw h refl

pub empty-out : (w : Portion) (number : ℕ) (at : Span) → in_portion w number ≡ false → empty_covered w number at ≡ Missing
unfolding empty_covered in_portion
empty-out w number at h = rw h refl

pub mark-in : (w : Portion) (number : ℕ) (at : Span) (p : Stmt) → in_portion w number ≡ true →
    with_mark w number at p ≡ At at (trees.Seq (trees.MoreStmts (defined.emission (portion_of w) number at) (trees.MoreStmts p trees.NoStmts)))
unfolding with_mark in_portion
mark-in w number at p h = rw h refl

pub mark-out : (w : Portion) (number : ℕ) (at : Span) (p : Stmt) → in_portion w number ≡ false → with_mark w number at p ≡ p
unfolding with_mark in_portion
mark-out w number at p h = rw h refl

-- ---- lists from an element on

list-more : (w : Portion) (before : List Point) (p : FlatStmt) (l : List FlatStmt) → list_covered w before (p ∷ l)
    ≡ stmt_covered w before p ∷ list_covered w (stmt_points before p) l
unfolding list_covered
list-more w before p l = refl

list-points_more : (before : List Point) (p : FlatStmt) (l : List FlatStmt) → list_points before (p ∷ l) ≡ list_points (stmt_points before p) l
unfolding list_points
list-points_more before p l = refl

choices-more : (w : Portion) (at : Span) (before : List Point) (c : FlatCase) (l : List FlatCase) → choices_covered w at before (c ∷ l)
    ≡ case_covered w at before c ∷ choices_covered w at (case_points at before c) l
unfolding choices_covered
choices-more w at before c l = refl

choice-points_more : (at : Span) (before : List Point) (c : FlatCase) (l : List FlatCase) →
    choice_points at before (c ∷ l) ≡ choice_points at (case_points at before c) l
unfolding choice_points
choice-points_more at before c l = refl

list-none : (w : Portion) (before : List Point) → list_covered w before [] ≡ []
unfolding list_covered
list-none w before = refl

list-points_none : (before : List Point) → list_points before [] ≡ before
unfolding list_points
list-points_none before = refl

choices-none : (w : Portion) (at : Span) (before : List Point) → choices_covered w at before [] ≡ []
unfolding choices_covered
choices-none w at before = refl

choice-points_none : (at : Span) (before : List Point) → choice_points at before [] ≡ before
unfolding choice_points
choice-points_none at before = refl

-- one more element is covered
pub list-step : (w : Portion) (before after : List Point) (l : List FlatStmt) (i : ℕ) (p : FlatStmt) (old new whole : List Stmt) (q : Stmt) →
    i < length l → p ≡ get_or l i p → after ≡ stmt_points before p → q ≡ stmt_covered w before p → new ≡ old ++ q ∷ []
    → old ++ list_covered w before (drop i l) ≡ whole → new ++ list_covered w after (drop (i + 1) l) ≡ whole
list-step w before after l i p old new whole q h is next same grown rest =
    ap (λ n. n ++ list_covered w after (drop (i + 1) l)) grown ∙ append_assoc old (q ∷ []) (list_covered w after (drop (i + 1) l))
    ∙ ap (λ n. old ++ n) (ap (λ t. t ∷ list_covered w after (drop (i + 1) l)) same
    ∙ ap (λ b. stmt_covered w before p ∷ list_covered w b (drop (i + 1) l)) next
    ∙ sym (ap (list_covered w before) (drop-at l i p h is) ∙ list-more w before p (drop (i + 1) l))) ∙ rest

pub list-points_step : (before after whole : List Point) (l : List FlatStmt) (i : ℕ) (p : FlatStmt) → i < length l → p ≡ get_or l i p →
    after ≡ stmt_points before p → list_points before (drop i l) ≡ whole → list_points after (drop (i + 1) l) ≡ whole
list-points_step before after whole l i p h is next rest =
    ap (λ b. list_points b (drop (i + 1) l)) next ∙ sym (ap (list_points before) (drop-at l i p h is) ∙ list-points_more before p (drop (i + 1) l)) ∙ rest

pub list-end : (w : Portion) (before : List Point) (l : List FlatStmt) (i : ℕ) (all whole : List Stmt) → length l ≤ i →
    all ++ list_covered w before (drop i l) ≡ whole → all ≡ whole
list-end w before l i all whole h rest =
    sym (append-nil all) ∙ ap (λ n. all ++ n) (sym (ap (list_covered w before) (drop_of_length-le l h) ∙ list-none w before)) ∙ rest

pub list-points_end : (before whole : List Point) (l : List FlatStmt) (i : ℕ) → length l ≤ i → list_points before (drop i l) ≡ whole → before ≡ whole
list-points_end before whole l i h rest = sym (ap (list_points before) (drop_of_length-le l h) ∙ list-points_none before) ∙ rest

pub choices-step : (w : Portion) (at : Span) (before after : List Point) (l : List FlatCase) (i : ℕ) (c : FlatCase) (old new whole : List (Expr × Part))
    (q : Expr × Part) → i < length l → c ≡ get_or l i c → after ≡ case_points at before c → q ≡ case_covered w at before c → new ≡ old ++ q ∷ []
    → old ++ choices_covered w at before (drop i l) ≡ whole → new ++ choices_covered w at after (drop (i + 1) l) ≡ whole
choices-step w at before after l i c old new whole q h is next same grown rest =
    ap (λ n. n ++ choices_covered w at after (drop (i + 1) l)) grown ∙ append_assoc old (q ∷ []) (choices_covered w at after (drop (i + 1) l))
    ∙ ap (λ n. old ++ n) (ap (λ t. t ∷ choices_covered w at after (drop (i + 1) l)) same
    ∙ ap (λ b. case_covered w at before c ∷ choices_covered w at b (drop (i + 1) l)) next
    ∙ sym (ap (choices_covered w at before) (drop-at l i c h is) ∙ choices-more w at before c (drop (i + 1) l))) ∙ rest

pub choice-points_step : (at : Span) (before after whole : List Point) (l : List FlatCase) (i : ℕ) (c : FlatCase) → i < length l → c ≡ get_or l i c →
    after ≡ case_points at before c → choice_points at before (drop i l) ≡ whole → choice_points at after (drop (i + 1) l) ≡ whole
choice-points_step at before after whole l i c h is next rest =
    ap (λ b. choice_points at b (drop (i + 1) l)) next
    ∙ sym (ap (choice_points at before) (drop-at l i c h is) ∙ choice-points_more at before c (drop (i + 1) l)) ∙ rest

pub choices-end : (w : Portion) (at : Span) (before : List Point) (l : List FlatCase) (i : ℕ) (all whole : List (Expr × Part)) → length l ≤ i →
    all ++ choices_covered w at before (drop i l) ≡ whole → all ≡ whole
choices-end w at before l i all whole h rest =
    sym (append-nil all) ∙ ap (λ n. all ++ n) (sym (ap (choices_covered w at before) (drop_of_length-le l h) ∙ choices-none w at before)) ∙ rest

pub choice-points_end : (at : Span) (before whole : List Point) (l : List FlatCase) (i : ℕ) → length l ≤ i →
    choice_points at before (drop i l) ≡ whole → before ≡ whole
choice-points_end at before whole l i h rest =
    sym (ap (choice_points at before) (drop_of_length-le l h) ∙ choice-points_none at before) ∙ rest

-- ---- a whole body

pub covered-of : (w : Portion) (before : List Point) (p : FlatStmt) (seen first count : ℕ) → w.seen ≡ seen → w.first ≡ first → w.count ≡ count → before ≡ []
    → stmt_covered w before p ≡ defined.covered_stmt (record { seen = seen; first = first; count = count }) [] (flat_stmt_of p)
unfolding stmt_covered
covered-of w before p seen first count a b c d = λ i.
    defined.covered_stmt (record { seen = a i; first = b i; count = c i }) (d i) (flat_stmt_of p)

pub points-from : (before : List Point) (p : FlatStmt) → before ≡ [] → stmt_points before p ≡ points_after [] (flat_stmt_of p)
unfolding stmt_points
points-from before p none = ap (λ b. points_after b (flat_stmt_of p)) none

-- ---- cases

-- what is held, in a row of what it is used for
pub held-ap : {Y : Type 0} (f : FlatStmt → Y) (p q : FlatStmt) → Some p ≡ Some q → f p ≡ f q
held-ap f p q h = let e : p ≡ q = cc in ap f e

pub none-held : {X : Type 0} (x : X) → None ≡ Some x → ⊥
none-held x h = cc

pub points-case_missing : (at : Span) (before : List Point) (c : FlatCase) → (out-FlatCase c).body ≡ None →
    case_points at before c ≡ more_points kinds.Case at before
unfolding case_points more_points out-FlatCase denote.Hole.Carrier.out
points-case_missing at before (FlatCase' event FlatCase-body-None') h = refl
points-case_missing at before (FlatCase' event (FlatCase-body-Some' span form)) h = absurd (none-held (record { span = span; form = form }) (sym h))

pub points-case_written : (at : Span) (before : List Point) (c : FlatCase) (p : FlatStmt) → (out-FlatCase c).body ≡ Some p →
    case_points at before c ≡ stmt_points (more_points kinds.Case p.span before) p
unfolding case_points more_points stmt_points out-FlatCase denote.Hole.Carrier.out
points-case_written at before (FlatCase' event FlatCase-body-None') p h = absurd (none-held p h)
points-case_written at before (FlatCase' event (FlatCase-body-Some' span form)) p h =
    held-ap (λ q. stmt_points (more_points kinds.Case q.span before) q) (record { span = span; form = form }) p h

pub covers-case_missing : (w : Portion) (at : Span) (before : List Point) (c : FlatCase) → (out-FlatCase c).body ≡ None →
    case_covered w at before c ≡ (test_moved w (out-FlatCase c).event, empty_covered w (length before) at)
unfolding case_covered empty_covered test_moved out-FlatCase denote.Hole.Carrier.out
covers-case_missing w at before (FlatCase' event FlatCase-body-None') h = refl
covers-case_missing w at before (FlatCase' event (FlatCase-body-Some' span form)) h = absurd (none-held (record { span = span; form = form }) (sym h))

pub covers-case_written : (w : Portion) (at : Span) (before : List Point) (c : FlatCase) (p : FlatStmt) → (out-FlatCase c).body ≡ Some p →
    case_covered w at before c ≡ (
      test_moved w (out-FlatCase c).event,
      Written (with_mark w (length before) p.span (stmt_covered w (more_points kinds.Case p.span before) p)),
    )
unfolding case_covered with_mark more_points stmt_covered test_moved out-FlatCase denote.Hole.Carrier.out
covers-case_written w at before (FlatCase' event FlatCase-body-None') p h = absurd (none-held p h)
covers-case_written w at before (FlatCase' event (FlatCase-body-Some' span form)) p h =
    held-ap (λ q. (test_moved w event, Written (with_mark w (length before) q.span (stmt_covered w (more_points kinds.Case q.span before) q))))
    (record { span = span; form = form }) p h

pub ruleset case_rows = (points-case_missing, points-case_written, covers-case_missing, covers-case_written)

pub in-low : (w : Portion) (number : ℕ) → in_portion w number ≡ true → w.first ≤ number
unfolding in_portion
in-low w number h = leb-true w.first number (and_parts (nat_le w.first number) (nat_lt number (w.first + w.count)) h).0

pub in-high : (w : Portion) (number : ℕ) → in_portion w number ≡ true → number < w.first + w.count
unfolding in_portion
in-high w number h = ltb-true number (w.first + w.count) (and_parts (nat_le w.first number) (nat_lt number (w.first + w.count)) h).1

pub ruleset in_rows = (in-low, in-high)

-- what a portion has, and what it has not
pub ruleset part_rows = (empty-in, empty-out)

pub ruleset mark_rows = (mark-in, mark-out, flat_form-Seq)

-- the rows of a form, each for the function of that form
pub ruleset stmt_rows = (points-stmt, covers-stmt)

pub ruleset bare_rows = (points-Nothing, points-Exit, covers-Nothing, covers-Exit)

pub ruleset pause_rows = (points-Pause, covers-Pause)

pub ruleset halt_rows = (points-Halt, covers-Halt)

pub ruleset emit_rows = (points-Emit, covers-Emit)

pub ruleset sustain_rows = (points-Sustain, covers-Sustain)

pub ruleset await_rows = (points-Await, covers-Await)

pub ruleset await_case_rows = (points-AwaitCase, covers-AwaitCase, flat_form-AwaitCase)

pub ruleset present_rows = (points-Present, covers-Present)

pub ruleset present_case_rows = (points-PresentCase, covers-PresentCase, flat_form-PresentCase)

pub ruleset loop_rows = (points-Loop, covers-Loop)

pub ruleset loop_each_rows = (points-LoopEach, covers-LoopEach)

pub ruleset every_rows = (points-Every, covers-Every)

pub ruleset repeat_rows = (points-Repeat, covers-Repeat)

pub ruleset abort_rows = (points-Abort, covers-Abort)

pub ruleset abort_case_rows = (points-AbortCase, covers-AbortCase, flat_form-AbortCase)

pub ruleset weak_abort_rows = (points-WeakAbort, covers-WeakAbort)

pub ruleset suspend_rows = (points-Suspend, covers-Suspend)

pub ruleset trap_rows = (points-Trap, covers-Trap)

pub ruleset signal_rows = (points-Signal, covers-Signal)

pub ruleset seq_rows = (points-Seq, covers-Seq, flat_form-Seq)

pub ruleset par_rows = (points-Par, covers-Par, flat_form-Par)

pub ruleset branch_rows = (points-part_missing, points-part_written, covers-part_missing, covers-part_written)

pub ruleset handler_rows = (points-rest_missing, points-rest_written, covers-rest_missing, covers-rest_written)

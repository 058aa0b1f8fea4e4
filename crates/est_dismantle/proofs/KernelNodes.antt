-- Inner: the kernel term of each node of the code, and the number of its new signals.
use Rattle.std.proofs.Common.{◌≡◌, ℕ, zero, suc, ◌+◌, ◌<◌, ◌≤◌, max, true, false, cond, List, [], ◌∷◌, length, map, drop, get_or}
use Rattle.std.proofs.Common.{Option, Some, None, refl, sym, ◌∙◌, ap, arith}
use Rattle.std.proofs.Math.ListN.{drop_of_length-le}
use Rattle.std.proofs.lemmas.Bool.{le-leb, lt-leb}
use Rattle.std.specs.declared.alloc.Global.{Global}
use Rattle.std.specs.declared.boxed.Box.{Box}
use Rattle.std.specs.declared.vec.Vec.{Vec}
use Rattle.base_facts.proofs.Lists.{drop-at}
use Rattle.base_types.specs.declared.indices.SigId.{SigId}
use Rattle.base_types.specs.declared.place.Span.{Span}
use Rattle.est_kernel.specs.Terms as terms
use Rattle.est_kernel.specs.Terms.{Term, Expression}
use Rattle.est_ast.specs.declared.flat.FlatCase.{FlatCase, FlatCase', FlatCase-body-None', FlatCase-body-Some', out-FlatCase}
use Rattle.est_ast.specs.declared.flat.FlatDelay.{FlatDelay}
use Rattle.est_ast.specs.declared.flat.FlatDelay.TheVariants as delays
use Rattle.est_ast.specs.declared.flat.FlatExpr.{FlatExpr}
use Rattle.est_ast.specs.declared.flat.FlatExpr.TheVariants as nodes
use Rattle.est_ast.specs.declared.flat.FlatForm.{FlatForm}
use Rattle.est_ast.specs.declared.flat.FlatForm.TheVariants as forms
use Rattle.est_ast.specs.declared.flat.FlatStmt.{FlatStmt}
use Rattle.est_ast.specs.FlatTrees.{exprs, cases}
use Rattle.est_ast.specs.FlatViews.{flat_expr_of, flat_delay_of, flat_stmt_of, flat_case_of, flat_part_of, flat_event_of, flat_body_of}
use Rattle.est_ast.proofs.Exports.{flat_expr-And, flat_expr-Or, flat_form-Seq, flat_form-Par, flat_form-AwaitCase, flat_form-PresentCase, flat_form-AbortCase}
use Rattle.est_dismantle.specs.Choices.{chosen_of}
use Rattle.est_dismantle.specs.FlatNodes.{event_test, events_tests, case_test, any_event_test, delay_new, stmt_new, node_new, part_new, stmts_new, case_new}
use Rattle.est_dismantle.specs.FlatNodes.{cases_new, stmt_kernel, node_kernel, part_kernel, stmts_kernels, case_choice, choices}
use Rattle.est_dismantle.specs.FlatNodes.{stmt_traps, node_traps, part_traps, stmts_traps, case_traps, cases_traps}
use Rattle.est_dismantle.specs.NewTraps.{traps_in, traps_in_form}
use Rattle.est_dismantle.specs.Kernels.{nested, sequence, parallel, times, expression, expressions, events, any_event, Traps, exit_code, halting, awaiting}
use Rattle.est_dismantle.specs.Kernels.{awaiting_delay, aborting, abortion, aborting_handled, handled, looping_each, later_delay, aborting_weakly, suspension}
use Rattle.est_dismantle.specs.Kernels.{locals, kernel, kernel_of_form, part, chosen}
use Rattle.est_ast.specs.NewSignals.{new_in, new_in_form, new_in_part, new_in_cases}
use Rattle.est_dismantle.proofs.Exits.{traps-Whole, traps-Source, traps-New}
use Rattle.est_dismantle.proofs.Found.{none-some, some-same}

-- ---- tests

tests-same : (l : List FlatExpr) → expressions (exprs (map flat_expr_of l)) ≡ map event_test l
unfolding event_test
tests-same [] = refl
tests-same (e ∷ l) = ap (λ k. expression (flat_expr_of e) ∷ k) (tests-same l)

tests-in : (l : List FlatExpr) → expressions (exprs (map flat_expr_of l)) ≡ events_tests l
unfolding events_tests
tests-in l = tests-same l

pub test-Tick : (span : Span) → event_test (nodes.Tick span) ≡ terms.Tick
unfolding event_test
test-Tick span = refl

pub test-Sig : (s : SigId) → event_test (nodes.Sig s) ≡ terms.Sig s.0
unfolding event_test
test-Sig s = refl

pub test-Not : (e : Box FlatExpr Global) → event_test (nodes.Not e) ≡ terms.Not (event_test e.value)
unfolding event_test
test-Not e = refl

pub test-And : (v : Vec FlatExpr Global) → event_test (nodes.And v) ≡ nested terms.And terms.Tick (events_tests v.items)
unfolding event_test
test-And v = ap expression (flat_expr-And v) ∙ ap (nested terms.And terms.Tick) (tests-in v.items)

pub test-Or : (v : Vec FlatExpr Global) → event_test (nodes.Or v) ≡ nested terms.Or terms.Tick (events_tests v.items)
unfolding event_test
test-Or v = ap expression (flat_expr-Or v) ∙ ap (nested terms.Or terms.Tick) (tests-in v.items)

pub tests-list : (l : List FlatExpr) → events_tests l ≡ map event_test l
unfolding events_tests
tests-list l = refl

pub ruleset event_rows = (test-Tick, test-Sig, test-Not, test-And, test-Or, tests-list)

pub case-event : (c : FlatCase) → case_test c ≡ event_test (out-FlatCase c).event
unfolding case_test event_test out-FlatCase denote.Hole.Carrier.out
case-event (FlatCase' event body) = refl

case-tests : (l : List FlatCase) → events (cases (map flat_case_of l)) ≡ map case_test l
unfolding case_test
case-tests [] = refl
case-tests (c ∷ l) = ap (λ k. expression (flat_event_of c) ∷ k) (case-tests l)

pub any-list : (l : List FlatCase) → any_event_test l ≡ nested terms.Or terms.Tick (map case_test l)
unfolding any_event_test
any-list l = ap (nested terms.Or terms.Tick) (case-tests l)

pub ruleset any_rows = (case-event, any-list)

-- ---- new signals

pub new-Plain : (e : FlatExpr) → delay_new (delays.Plain e) ≡ 0
unfolding delay_new
new-Plain e = refl

pub new-Immediate : (e : FlatExpr) → delay_new (delays.Immediate e) ≡ 0
unfolding delay_new
new-Immediate e = refl

pub new-Count_one : (count : ℕ) (span : Span) (e : FlatExpr) → count ≤ 1 → delay_new (delays.Count count span e) ≡ 0
unfolding delay_new
new-Count_one count span e h = ap (λ b. cond b 0 1) (le-leb count 1 h)

pub new-Count_more : (count : ℕ) (span : Span) (e : FlatExpr) → 1 < count → delay_new (delays.Count count span e) ≡ 1
unfolding delay_new
new-Count_more count span e h = ap (λ b. cond b 0 1) (lt-leb count 1 h)

pub ruleset delay_rows = (new-Plain, new-Immediate, new-Count_one, new-Count_more)

pub new-stmt : (p : FlatStmt) → stmt_new p ≡ node_new p.form
unfolding stmt_new node_new
new-stmt p = refl

pub new-Nothing : node_new forms.Nothing ≡ 0
unfolding node_new
new-Nothing = refl

pub new-Pause : node_new forms.Pause ≡ 0
unfolding node_new
new-Pause = refl

pub new-Halt : node_new forms.Halt ≡ 0
unfolding node_new
new-Halt = refl

pub new-Emit : (s : SigId) → node_new (forms.Emit s) ≡ 0
unfolding node_new
new-Emit s = refl

pub new-Sustain : (s : SigId) → node_new (forms.Sustain s) ≡ 0
unfolding node_new
new-Sustain s = refl

pub new-Exit : (k : ℕ) → node_new (forms.Exit k) ≡ 0
unfolding node_new
new-Exit k = refl

pub new-Await_missing : (d : FlatDelay) → node_new (forms.Await d None) ≡ 0
unfolding node_new
new-Await_missing d = refl

pub new-Await_written : (d : FlatDelay) (r : Box FlatStmt Global) → node_new (forms.Await d (Some r)) ≡ stmt_new r.value
unfolding node_new stmt_new
new-Await_written d r = refl

pub new-AwaitCase : (v : Vec FlatCase Global) → node_new (forms.AwaitCase v) ≡ cases_new v.items
unfolding node_new cases_new
new-AwaitCase v = ap new_in_form (flat_form-AwaitCase v)

pub new-Present : (e : FlatExpr) (p q : Option (Box FlatStmt Global)) → node_new (forms.Present e p q) ≡ part_new p + part_new q
unfolding node_new part_new
new-Present e p q = refl

pub new-PresentCase : (v : Vec FlatCase Global) (q : Option (Box FlatStmt Global)) → node_new (forms.PresentCase v q) ≡ cases_new v.items + part_new q
unfolding node_new cases_new part_new
new-PresentCase v q = ap new_in_form (flat_form-PresentCase v q)

pub new-Loop : (p : Box FlatStmt Global) → node_new (forms.Loop p) ≡ stmt_new p.value
unfolding node_new stmt_new
new-Loop p = refl

pub new-LoopEach : (p : Box FlatStmt Global) (d : FlatDelay) → node_new (forms.LoopEach p d) ≡ delay_new d + stmt_new p.value
unfolding node_new stmt_new delay_new
new-LoopEach p d = refl

pub new-Every : (d : FlatDelay) (p : Box FlatStmt Global) → node_new (forms.Every d p) ≡ delay_new d + stmt_new p.value
unfolding node_new stmt_new delay_new
new-Every d p = refl

pub new-Repeat : (count : ℕ) (span : Span) (p : Box FlatStmt Global) → node_new (forms.Repeat count span p) ≡ stmt_new p.value
unfolding node_new stmt_new
new-Repeat count span p = refl

pub new-Abort_missing : (p : Box FlatStmt Global) (d : FlatDelay) → node_new (forms.Abort p d None) ≡ delay_new d + (stmt_new p.value + 0)
unfolding node_new stmt_new delay_new
new-Abort_missing p d = refl

pub new-Abort_written : (p : Box FlatStmt Global) (d : FlatDelay) (r : Box FlatStmt Global) →
    node_new (forms.Abort p d (Some r)) ≡ delay_new d + (stmt_new p.value + stmt_new r.value)
unfolding node_new stmt_new delay_new
new-Abort_written p d r = refl

pub new-AbortCase : (p : Box FlatStmt Global) (v : Vec FlatCase Global) → node_new (forms.AbortCase p v) ≡ stmt_new p.value + cases_new v.items
unfolding node_new stmt_new cases_new
new-AbortCase p v = ap new_in_form (flat_form-AbortCase p v)

pub new-WeakAbort : (p : Box FlatStmt Global) (d : FlatDelay) → node_new (forms.WeakAbort p d) ≡ stmt_new p.value
unfolding node_new stmt_new
new-WeakAbort p d = refl

pub new-Suspend : (p : Box FlatStmt Global) (d : FlatDelay) → node_new (forms.Suspend p d) ≡ stmt_new p.value
unfolding node_new stmt_new
new-Suspend p d = refl

pub new-Trap_missing : (p : Box FlatStmt Global) → node_new (forms.Trap p None) ≡ stmt_new p.value + 0
unfolding node_new stmt_new
new-Trap_missing p = refl

pub new-Trap_written : (p : Box FlatStmt Global) (r : Box FlatStmt Global) → node_new (forms.Trap p (Some r)) ≡ stmt_new p.value + stmt_new r.value
unfolding node_new stmt_new
new-Trap_written p r = refl

pub new-Signal : (v : Vec SigId Global) (p : Box FlatStmt Global) → node_new (forms.Signal v p) ≡ stmt_new p.value
unfolding node_new stmt_new
new-Signal v p = refl

pub new-Seq : (v : Vec FlatStmt Global) → node_new (forms.Seq v) ≡ stmts_new v.items
unfolding node_new stmts_new
new-Seq v = ap new_in_form (flat_form-Seq v)

pub new-Par : (v : Vec FlatStmt Global) → node_new (forms.Par v) ≡ stmts_new v.items
unfolding node_new stmts_new
new-Par v = ap new_in_form (flat_form-Par v)

pub new-part_missing : part_new None ≡ 0
unfolding part_new
new-part_missing = refl

pub new-part_written : (p : Box FlatStmt Global) → part_new (Some p) ≡ stmt_new p.value
unfolding part_new stmt_new
new-part_written p = refl

-- ---- traps around exits

pub traps-stmt : (p : FlatStmt) → stmt_traps p ≡ node_traps p.form
unfolding stmt_traps node_traps
traps-stmt p = refl

pub traps-Await_written : (d : FlatDelay) (r : Box FlatStmt Global) → node_traps (forms.Await d (Some r)) ≡ stmt_traps r.value
unfolding node_traps stmt_traps
traps-Await_written d r = refl

pub traps-AwaitCase : (v : Vec FlatCase Global) → node_traps (forms.AwaitCase v) ≡ cases_traps v.items
unfolding node_traps cases_traps
traps-AwaitCase v = ap traps_in_form (flat_form-AwaitCase v)

pub traps-Present : (e : FlatExpr) (p q : Option (Box FlatStmt Global)) → node_traps (forms.Present e p q) ≡ max (part_traps p) (part_traps q)
unfolding node_traps part_traps
traps-Present e p q = refl

pub traps-PresentCase : (v : Vec FlatCase Global) (q : Option (Box FlatStmt Global)) →
    node_traps (forms.PresentCase v q) ≡ max (cases_traps v.items) (part_traps q)
unfolding node_traps cases_traps part_traps
traps-PresentCase v q = ap traps_in_form (flat_form-PresentCase v q)

pub traps-Loop : (p : Box FlatStmt Global) → node_traps (forms.Loop p) ≡ stmt_traps p.value
unfolding node_traps stmt_traps
traps-Loop p = refl

pub traps-LoopEach : (p : Box FlatStmt Global) (d : FlatDelay) → node_traps (forms.LoopEach p d) ≡ 1 + stmt_traps p.value
unfolding node_traps stmt_traps
traps-LoopEach p d = refl

pub traps-Every : (d : FlatDelay) (p : Box FlatStmt Global) → node_traps (forms.Every d p) ≡ 1 + stmt_traps p.value
unfolding node_traps stmt_traps
traps-Every d p = refl

pub traps-Repeat : (count : ℕ) (span : Span) (p : Box FlatStmt Global) → node_traps (forms.Repeat count span p) ≡ stmt_traps p.value
unfolding node_traps stmt_traps
traps-Repeat count span p = refl

pub traps-Abort_missing : (p : Box FlatStmt Global) (d : FlatDelay) → node_traps (forms.Abort p d None) ≡ 1 + stmt_traps p.value
unfolding node_traps stmt_traps
traps-Abort_missing p d = refl

pub traps-Abort_written : (p : Box FlatStmt Global) (d : FlatDelay) (r : Box FlatStmt Global) →
    node_traps (forms.Abort p d (Some r)) ≡ max (2 + stmt_traps p.value) (1 + stmt_traps r.value)
unfolding node_traps stmt_traps
traps-Abort_written p d r = refl

pub traps-AbortCase : (p : Box FlatStmt Global) (v : Vec FlatCase Global) →
    node_traps (forms.AbortCase p v) ≡ max (2 + stmt_traps p.value) (1 + cases_traps v.items)
unfolding node_traps stmt_traps cases_traps
traps-AbortCase p v = ap traps_in_form (flat_form-AbortCase p v)

pub traps-WeakAbort : (p : Box FlatStmt Global) (d : FlatDelay) → node_traps (forms.WeakAbort p d) ≡ 1 + stmt_traps p.value
unfolding node_traps stmt_traps
traps-WeakAbort p d = refl

pub traps-Suspend : (p : Box FlatStmt Global) (d : FlatDelay) → node_traps (forms.Suspend p d) ≡ stmt_traps p.value
unfolding node_traps stmt_traps
traps-Suspend p d = refl

pub traps-Trap_missing : (p : Box FlatStmt Global) → node_traps (forms.Trap p None) ≡ 1 + stmt_traps p.value
unfolding node_traps stmt_traps
traps-Trap_missing p = refl

pub traps-Trap_written : (p : Box FlatStmt Global) (r : Box FlatStmt Global) →
    node_traps (forms.Trap p (Some r)) ≡ max (2 + stmt_traps p.value) (1 + stmt_traps r.value)
unfolding node_traps stmt_traps
traps-Trap_written p r = refl

pub traps-Signal : (v : Vec SigId Global) (p : Box FlatStmt Global) → node_traps (forms.Signal v p) ≡ stmt_traps p.value
unfolding node_traps stmt_traps
traps-Signal v p = refl

pub traps-Seq : (v : Vec FlatStmt Global) → node_traps (forms.Seq v) ≡ stmts_traps v.items
unfolding node_traps stmts_traps
traps-Seq v = ap traps_in_form (flat_form-Seq v)

pub traps-Par : (v : Vec FlatStmt Global) → node_traps (forms.Par v) ≡ stmts_traps v.items
unfolding node_traps stmts_traps
traps-Par v = ap traps_in_form (flat_form-Par v)

pub traps-part_written : (p : Box FlatStmt Global) → part_traps (Some p) ≡ stmt_traps p.value
unfolding part_traps stmt_traps
traps-part_written p = refl

pub stmts-traps_more : (p : FlatStmt) (l : List FlatStmt) → stmts_traps (p ∷ l) ≡ max (stmt_traps p) (stmts_traps l)
unfolding stmts_traps stmt_traps
stmts-traps_more p l = refl

pub cases-traps_more : (c : FlatCase) (l : List FlatCase) → cases_traps (c ∷ l) ≡ max (case_traps c) (cases_traps l)
unfolding cases_traps case_traps
cases-traps_more c l = refl

pub case-traps_written : (c : FlatCase) (p : FlatStmt) → (out-FlatCase c).body ≡ Some p → case_traps c ≡ stmt_traps p
unfolding case_traps stmt_traps out-FlatCase denote.Hole.Carrier.out
case-traps_written (FlatCase' event FlatCase-body-None') p h = absurd (none-some p h)
case-traps_written (FlatCase' event (FlatCase-body-Some' span form)) p h =
    ap (λ q. traps_in (flat_stmt_of q)) (some-same (record { span = span; form = form }) p h)

-- ---- kernel terms

pub kernel-stmt : (traps : Traps) (x : ℕ) (p : FlatStmt) → stmt_kernel traps x p ≡ node_kernel traps x p.span p.form
unfolding stmt_kernel node_kernel
kernel-stmt traps x p = refl

pub kernel-Nothing : (traps : Traps) (x : ℕ) (at : Span) → node_kernel traps x at forms.Nothing ≡ terms.Nothing
unfolding node_kernel
kernel-Nothing traps x at = refl

pub kernel-Pause : (traps : Traps) (x : ℕ) (at : Span) → node_kernel traps x at forms.Pause ≡ terms.Pause
unfolding node_kernel
kernel-Pause traps x at = refl

pub kernel-Halt : (traps : Traps) (x : ℕ) (at : Span) → node_kernel traps x at forms.Halt ≡ halting at
unfolding node_kernel
kernel-Halt traps x at = refl

pub kernel-Emit : (traps : Traps) (x : ℕ) (at : Span) (s : SigId) → node_kernel traps x at (forms.Emit s) ≡ terms.Emit s.0
unfolding node_kernel
kernel-Emit traps x at s = refl

pub kernel-Sustain : (traps : Traps) (x : ℕ) (at : Span) (s : SigId) →
    node_kernel traps x at (forms.Sustain s) ≡ terms.Loop at (terms.Seq (terms.Emit s.0) terms.Pause)
unfolding node_kernel
kernel-Sustain traps x at s = refl

pub kernel-Await_missing : (traps : Traps) (x : ℕ) (at : Span) (d : FlatDelay) →
    node_kernel traps x at (forms.Await d None) ≡ awaiting_delay at (flat_delay_of d)
unfolding node_kernel
kernel-Await_missing traps x at d = refl

pub kernel-Await_written : (traps : Traps) (x : ℕ) (at : Span) (d : FlatDelay) (r : Box FlatStmt Global) →
    node_kernel traps x at (forms.Await d (Some r)) ≡ terms.Seq (awaiting_delay at (flat_delay_of d)) (stmt_kernel traps x r.value)
unfolding node_kernel stmt_kernel
kernel-Await_written traps x at d r = refl

chosen-choices : (traps : Traps) (x : ℕ) (l : List FlatCase) (r : Term) → chosen traps x (cases (map flat_case_of l)) r ≡ chosen_of (choices traps x l) r
unfolding choices case_choice case_test case_new
chosen-choices traps x [] r = refl
chosen-choices traps x (c ∷ l) r =
    ap (terms.Present (expression (flat_event_of c)) (part traps x (flat_body_of c))) (chosen-choices traps (x + new_in_part (flat_body_of c)) l r)

pub kernel-AwaitCase : (traps : Traps) (x : ℕ) (at : Span) (v : Vec FlatCase Global) →
    node_kernel traps x at (forms.AwaitCase v) ≡ terms.Seq (awaiting at (any_event_test v.items)) (chosen_of (choices traps x v.items) terms.Nothing)
unfolding node_kernel any_event_test
kernel-AwaitCase traps x at v = ap (kernel_of_form traps x at) (flat_form-AwaitCase v)
    ∙ ap (terms.Seq (awaiting at (any_event (cases (map flat_case_of v.items))))) (chosen-choices traps x v.items terms.Nothing)

pub kernel-Present : (traps : Traps) (x : ℕ) (at : Span) (e : FlatExpr) (p q : Option (Box FlatStmt Global)) →
    node_kernel traps x at (forms.Present e p q) ≡ terms.Present (event_test e) (part_kernel traps x p) (part_kernel traps (x + part_new p) q)
unfolding node_kernel event_test part_kernel part_new
kernel-Present traps x at e p q = refl

pub kernel-PresentCase : (traps : Traps) (x : ℕ) (at : Span) (v : Vec FlatCase Global) (q : Option (Box FlatStmt Global)) →
    node_kernel traps x at (forms.PresentCase v q) ≡ chosen_of (choices traps x v.items) (part_kernel traps (x + cases_new v.items) q)
unfolding node_kernel part_kernel cases_new
kernel-PresentCase traps x at v q = ap (kernel_of_form traps x at) (flat_form-PresentCase v q)
    ∙ chosen-choices traps x v.items (part traps (x + new_in_cases (cases (map flat_case_of v.items))) (flat_part_of q))

pub kernel-Loop : (traps : Traps) (x : ℕ) (at : Span) (p : Box FlatStmt Global) →
    node_kernel traps x at (forms.Loop p) ≡ terms.Loop at (stmt_kernel traps x p.value)
unfolding node_kernel stmt_kernel
kernel-Loop traps x at p = refl

pub kernel-LoopEach : (traps : Traps) (x : ℕ) (at : Span) (p : Box FlatStmt Global) (d : FlatDelay) →
    node_kernel traps x at (forms.LoopEach p d) ≡ looping_each at (flat_delay_of d) x (stmt_kernel (false ∷ traps) (x + delay_new d) p.value)
unfolding node_kernel stmt_kernel delay_new
kernel-LoopEach traps x at p d = refl

pub kernel-Every : (traps : Traps) (x : ℕ) (at : Span) (d : FlatDelay) (p : Box FlatStmt Global) →
    node_kernel traps x at (forms.Every d p) ≡ terms.Seq (awaiting_delay at (flat_delay_of d))
    (looping_each at (later_delay (flat_delay_of d)) x (stmt_kernel (false ∷ traps) (x + delay_new d) p.value))
unfolding node_kernel stmt_kernel delay_new
kernel-Every traps x at d p = refl

pub kernel-Repeat : (traps : Traps) (x : ℕ) (at : Span) (count : ℕ) (span : Span) (p : Box FlatStmt Global) →
    node_kernel traps x at (forms.Repeat count span p) ≡ sequence (times count (stmt_kernel traps x p.value))
unfolding node_kernel stmt_kernel
kernel-Repeat traps x at count span p = refl

pub kernel-Abort_missing : (traps : Traps) (x : ℕ) (at : Span) (p : Box FlatStmt Global) (d : FlatDelay) →
    node_kernel traps x at (forms.Abort p d None) ≡ abortion at (flat_delay_of d) x (stmt_kernel (false ∷ traps) (x + delay_new d) p.value)
unfolding node_kernel stmt_kernel delay_new
kernel-Abort_missing traps x at p d = refl

pub kernel-Abort_written : (traps : Traps) (x : ℕ) (at : Span) (p : Box FlatStmt Global) (d : FlatDelay) (r : Box FlatStmt Global) →
    node_kernel traps x at (forms.Abort p d (Some r)) ≡ handled (aborting_handled at (flat_delay_of d) x
    (stmt_kernel (false ∷ (false ∷ traps)) (x + delay_new d) p.value)) (stmt_kernel (false ∷ traps) (x + delay_new d + stmt_new p.value) r.value)
unfolding node_kernel stmt_kernel delay_new stmt_new
kernel-Abort_written traps x at p d r = refl

pub kernel-AbortCase : (traps : Traps) (x : ℕ) (at : Span) (p : Box FlatStmt Global) (v : Vec FlatCase Global) →
    node_kernel traps x at (forms.AbortCase p v) ≡ handled (aborting at (any_event_test v.items) 3 (stmt_kernel (false ∷ (false ∷ traps)) x p.value))
    (chosen_of (choices (false ∷ traps) (x + stmt_new p.value) v.items) terms.Nothing)
unfolding node_kernel stmt_kernel any_event_test stmt_new
kernel-AbortCase traps x at p v = ap (kernel_of_form traps x at) (flat_form-AbortCase p v)
    ∙ ap (handled (aborting at (any_event (cases (map flat_case_of v.items))) 3 (kernel (false ∷ (false ∷ traps)) x (flat_stmt_of p.value))))
    (chosen-choices (false ∷ traps) (x + new_in (flat_stmt_of p.value)) v.items terms.Nothing)

pub kernel-WeakAbort : (traps : Traps) (x : ℕ) (at : Span) (p : Box FlatStmt Global) (d : FlatDelay) →
    node_kernel traps x at (forms.WeakAbort p d) ≡ aborting_weakly at (flat_delay_of d) (stmt_kernel (false ∷ traps) x p.value)
unfolding node_kernel stmt_kernel
kernel-WeakAbort traps x at p d = refl

pub kernel-Suspend : (traps : Traps) (x : ℕ) (at : Span) (p : Box FlatStmt Global) (d : FlatDelay) →
    node_kernel traps x at (forms.Suspend p d) ≡ suspension at (flat_delay_of d) (stmt_kernel traps x p.value)
unfolding node_kernel stmt_kernel
kernel-Suspend traps x at p d = refl

pub kernel-Trap_missing : (traps : Traps) (x : ℕ) (at : Span) (p : Box FlatStmt Global) →
    node_kernel traps x at (forms.Trap p None) ≡ terms.Trap (stmt_kernel (true ∷ traps) x p.value)
unfolding node_kernel stmt_kernel
kernel-Trap_missing traps x at p = refl

pub kernel-Trap_written : (traps : Traps) (x : ℕ) (at : Span) (p : Box FlatStmt Global) (r : Box FlatStmt Global) →
    node_kernel traps x at (forms.Trap p (Some r)) ≡ handled (terms.Seq (stmt_kernel (true ∷ (false ∷ traps)) x p.value) (terms.Exit 3))
    (stmt_kernel (false ∷ traps) (x + stmt_new p.value) r.value)
unfolding node_kernel stmt_kernel stmt_new
kernel-Trap_written traps x at p r = refl

pub kernel-Exit : (traps : Traps) (x : ℕ) (at : Span) (k : ℕ) → node_kernel traps x at (forms.Exit k) ≡ terms.Exit (exit_code traps k)
unfolding node_kernel
kernel-Exit traps x at k = refl

pub kernel-Signal : (traps : Traps) (x : ℕ) (at : Span) (v : Vec SigId Global) (p : Box FlatStmt Global) →
    node_kernel traps x at (forms.Signal v p) ≡ locals (map (λ s. s.0) v.items) (stmt_kernel traps x p.value)
unfolding node_kernel stmt_kernel
kernel-Signal traps x at v p = refl

pub kernel-Seq : (traps : Traps) (x : ℕ) (at : Span) (v : Vec FlatStmt Global) → node_kernel traps x at (forms.Seq v) ≡ sequence (stmts_kernels traps x v.items)
unfolding node_kernel stmts_kernels
kernel-Seq traps x at v = ap (kernel_of_form traps x at) (flat_form-Seq v)

pub kernel-Par : (traps : Traps) (x : ℕ) (at : Span) (v : Vec FlatStmt Global) → node_kernel traps x at (forms.Par v) ≡ parallel (stmts_kernels traps x v.items)
unfolding node_kernel stmts_kernels
kernel-Par traps x at v = ap (kernel_of_form traps x at) (flat_form-Par v)

pub kernel-part_missing : (traps : Traps) (x : ℕ) → part_kernel traps x None ≡ terms.Nothing
unfolding part_kernel
kernel-part_missing traps x = refl

pub kernel-part_written : (traps : Traps) (x : ℕ) (p : Box FlatStmt Global) → part_kernel traps x (Some p) ≡ stmt_kernel traps x p.value
unfolding part_kernel stmt_kernel
kernel-part_written traps x p = refl

pub stmts-none : (traps : Traps) (x : ℕ) → stmts_kernels traps x [] ≡ []
unfolding stmts_kernels
stmts-none traps x = refl

pub stmts-more : (traps : Traps) (x : ℕ) (p : FlatStmt) (l : List FlatStmt) →
    stmts_kernels traps x (p ∷ l) ≡ stmt_kernel traps x p ∷ stmts_kernels traps (x + stmt_new p) l
unfolding stmts_kernels stmt_kernel stmt_new
stmts-more traps x p l = refl

pub stmts-new_none : stmts_new [] ≡ 0
unfolding stmts_new
stmts-new_none = refl

pub stmts-new_more : (p : FlatStmt) (l : List FlatStmt) → stmts_new (p ∷ l) ≡ stmt_new p + stmts_new l
unfolding stmts_new stmt_new
stmts-new_more p l = refl

pub choices-none : (traps : Traps) (x : ℕ) → choices traps x [] ≡ []
unfolding choices
choices-none traps x = refl

pub choices-more : (traps : Traps) (x : ℕ) (c : FlatCase) (l : List FlatCase) →
    choices traps x (c ∷ l) ≡ case_choice traps x c ∷ choices traps (x + case_new c) l
unfolding choices
choices-more traps x c l = refl

pub cases-new_none : cases_new [] ≡ 0
unfolding cases_new
cases-new_none = refl

pub cases-new_more : (c : FlatCase) (l : List FlatCase) → cases_new (c ∷ l) ≡ case_new c + cases_new l
unfolding cases_new case_new
cases-new_more c l = refl

pub case-missing : (traps : Traps) (x : ℕ) (c : FlatCase) → (out-FlatCase c).body ≡ None →
    case_choice traps x c ≡ (event_test (out-FlatCase c).event, terms.Nothing)
unfolding case_choice case_test event_test out-FlatCase denote.Hole.Carrier.out
case-missing traps x (FlatCase' event FlatCase-body-None') h = refl
case-missing traps x (FlatCase' event (FlatCase-body-Some' span form)) h = absurd (none-some (record { span = span; form = form }) (sym h))

pub case-written : (traps : Traps) (x : ℕ) (c : FlatCase) (p : FlatStmt) → (out-FlatCase c).body ≡ Some p →
    case_choice traps x c ≡ (event_test (out-FlatCase c).event, stmt_kernel traps x p)
unfolding case_choice case_test event_test stmt_kernel out-FlatCase denote.Hole.Carrier.out
case-written traps x (FlatCase' event FlatCase-body-None') p h = absurd (none-some p h)
case-written traps x (FlatCase' event (FlatCase-body-Some' span form)) p h =
    ap (λ q. (expression (flat_expr_of event), kernel traps x (flat_stmt_of q))) (some-same (record { span = span; form = form }) p h)

pub case-new_missing : (c : FlatCase) → (out-FlatCase c).body ≡ None → case_new c ≡ 0
unfolding case_new out-FlatCase denote.Hole.Carrier.out
case-new_missing (FlatCase' event FlatCase-body-None') h = refl
case-new_missing (FlatCase' event (FlatCase-body-Some' span form)) h = absurd (none-some (record { span = span; form = form }) (sym h))

pub case-new_written : (c : FlatCase) (p : FlatStmt) → (out-FlatCase c).body ≡ Some p → case_new c ≡ stmt_new p
unfolding case_new stmt_new out-FlatCase denote.Hole.Carrier.out
case-new_written (FlatCase' event FlatCase-body-None') p h = absurd (none-some p h)
case-new_written (FlatCase' event (FlatCase-body-Some' span form)) p h = ap (λ q. new_in (flat_stmt_of q)) (some-same (record { span = span; form = form }) p h)

-- ---- rows put together

pub put-Present : (traps : Traps) (x y : ℕ) (at : Span) (form : FlatForm) (e : FlatExpr) (p q : Option (Box FlatStmt Global)) (t : Expression) (a b k : Term)
    → form ≡ forms.Present e p q → t ≡ event_test e → a ≡ part_kernel traps x p → y ≡ x + part_new p → b ≡ part_kernel traps y q → k ≡ terms.Present t a b →
    k ≡ node_kernel traps x at form
put-Present traps x y at form e p q t a b k is test a_is next b_is whole = let row = kernel-Present traps x at e p q in cc

pub put-Abort : (traps outer inner : Traps) (x y z : ℕ) (at : Span) (form : FlatForm) (p r : Box FlatStmt Global) (d : FlatDelay)
    (rest : Option (Box FlatStmt Global)) (s u : FlatStmt) (n : ℕ) (a b c k : Term)
    → a ≡ stmt_kernel inner y s → b ≡ stmt_kernel outer z u → c ≡ aborting_handled at (flat_delay_of d) n a → k ≡ handled c b
    → outer ≡ false ∷ traps → inner ≡ false ∷ outer
    → form ≡ forms.Abort p d rest → rest ≡ Some r → s ≡ p.value → u ≡ r.value → n ≡ x → y ≡ x + delay_new d → z ≡ y + stmt_new s →
    k ≡ node_kernel traps x at form
put-Abort traps outer inner x y z at form p r d rest s u n a b c k a_is b_is c_is whole around within is written body box number first next =
    let row = kernel-Abort_written traps x at p d r in cc

pub put-AbortCase : (traps outer inner : Traps) (x y : ℕ) (at : Span) (form : FlatForm) (p : Box FlatStmt Global) (v : Vec FlatCase Global) (s : FlatStmt)
    (l m : List FlatCase) (ch : List (Expression × Term)) (t : Expression) (a b c k : Term)
    → a ≡ stmt_kernel inner x s → ch ≡ choices outer y l → b ≡ chosen_of ch terms.Nothing → t ≡ any_event_test m → c ≡ aborting at t 3 a → k ≡ handled c b
    → outer ≡ false ∷ traps → inner ≡ false ∷ outer
    → form ≡ forms.AbortCase p v → s ≡ p.value → l ≡ v.items → m ≡ v.items → y ≡ x + stmt_new s → k ≡ node_kernel traps x at form
put-AbortCase traps outer inner x y at form p v s l m ch t a b c k a_is ch_is b_is any c_is whole around within is body list same next =
    let row = kernel-AbortCase traps x at p v in cc

pub put-Trap : (traps outer inner : Traps) (x y : ℕ) (at : Span) (form : FlatForm) (p r : Box FlatStmt Global) (rest : Option (Box FlatStmt Global))
    (s u : FlatStmt) (a b c k : Term)
    → a ≡ stmt_kernel inner x s → b ≡ stmt_kernel outer y u → c ≡ terms.Seq a (terms.Exit 3) → k ≡ handled c b
    → outer ≡ false ∷ traps → inner ≡ true ∷ outer
    → form ≡ forms.Trap p rest → rest ≡ Some r → s ≡ p.value → u ≡ r.value → y ≡ x + stmt_new s → k ≡ node_kernel traps x at form
put-Trap traps outer inner x y at form p r rest s u a b c k a_is b_is c_is whole around within is written body box next =
    let row = kernel-Trap_written traps x at p r in cc

-- ---- lists

pub stmts-at : (traps : Traps) (x y : ℕ) (l : List FlatStmt) (i : ℕ) (p : FlatStmt) → i < length l → p ≡ get_or l i p → y ≡ x + stmt_new p →
    stmts_kernels traps x (drop i l) ≡ stmt_kernel traps x p ∷ stmts_kernels traps y (drop (i + 1) l)
stmts-at traps x y l i p h is next =
    ap (stmts_kernels traps x) (drop-at l i p h is) ∙ stmts-more traps x p (drop (i + 1) l)
    ∙ ap (λ z. stmt_kernel traps x p ∷ stmts_kernels traps z (drop (i + 1) l)) (sym next)

pub stmts-new_at : (l : List FlatStmt) (i : ℕ) (p : FlatStmt) → i < length l → p ≡ get_or l i p → stmts_new (drop i l) ≡ stmt_new p + stmts_new (drop (i + 1) l)
stmts-new_at l i p h is = ap stmts_new (drop-at l i p h is) ∙ stmts-new_more p (drop (i + 1) l)

pub stmts-past : (traps : Traps) (x : ℕ) (l : List FlatStmt) (i : ℕ) → length l ≤ i → stmts_kernels traps x (drop i l) ≡ []
stmts-past traps x l i h = ap (stmts_kernels traps x) (drop_of_length-le l h) ∙ stmts-none traps x

pub stmts-new_past : (l : List FlatStmt) (i : ℕ) → length l ≤ i → stmts_new (drop i l) ≡ 0
stmts-new_past l i h = ap stmts_new (drop_of_length-le l h) ∙ stmts-new_none

pub choices-at : (traps : Traps) (x y : ℕ) (l : List FlatCase) (i : ℕ) (c : FlatCase) → i < length l → c ≡ get_or l i c → y ≡ x + case_new c →
    choices traps x (drop i l) ≡ case_choice traps x c ∷ choices traps y (drop (i + 1) l)
choices-at traps x y l i c h is next =
    ap (choices traps x) (drop-at l i c h is) ∙ choices-more traps x c (drop (i + 1) l)
    ∙ ap (λ z. case_choice traps x c ∷ choices traps z (drop (i + 1) l)) (sym next)

pub cases-new_at : (l : List FlatCase) (i : ℕ) (c : FlatCase) → i < length l → c ≡ get_or l i c → cases_new (drop i l) ≡ case_new c + cases_new (drop (i + 1) l)
cases-new_at l i c h is = ap cases_new (drop-at l i c h is) ∙ cases-new_more c (drop (i + 1) l)

pub choices-past : (traps : Traps) (x : ℕ) (l : List FlatCase) (i : ℕ) → length l ≤ i → choices traps x (drop i l) ≡ []
choices-past traps x l i h = ap (choices traps x) (drop_of_length-le l h) ∙ choices-none traps x

pub cases-new_past : (l : List FlatCase) (i : ℕ) → length l ≤ i → cases_new (drop i l) ≡ 0
cases-new_past l i h = ap cases_new (drop_of_length-le l h) ∙ cases-new_none

-- a statement of a list has at most the list's traps around its exits
pub stmts-traps_of : (l : List FlatStmt) (i : ℕ) (p : FlatStmt) → i < length l → p ≡ get_or l i p → stmt_traps p ≤ stmts_traps l
stmts-traps_of [] i p h is = absurd (omega (arith, h))
stmts-traps_of (q ∷ l) zero p h is = omega (arith, ap stmt_traps is, stmts-traps_more q l)
stmts-traps_of (q ∷ l) (suc i) p h is = omega (arith, stmts-traps_of l i p (omega (arith, h)) is, stmts-traps_more q l)

pub cases-traps_of : (l : List FlatCase) (i : ℕ) (c : FlatCase) → i < length l → c ≡ get_or l i c → case_traps c ≤ cases_traps l
cases-traps_of [] i c h is = absurd (omega (arith, h))
cases-traps_of (d ∷ l) zero c h is = omega (arith, ap case_traps is, cases-traps_more d l)
cases-traps_of (d ∷ l) (suc i) c h is = omega (arith, cases-traps_of l i c (omega (arith, h)) is, cases-traps_more d l)

-- those of a statement, of a case, and of lists
pub ruleset stmt_rows = (new-stmt, traps-stmt, kernel-stmt)

pub ruleset case_rows = (case-new_missing, case-new_written, case-traps_written)

pub ruleset list_rows = (stmts-new_at, stmts-traps_of, cases-new_at, cases-traps_of)

-- all of them
pub ruleset kernel_rows = (
  traps-Whole,
  traps-Source,
  traps-New,
  new-stmt,
  new-Nothing,
  new-Pause,
  new-Halt,
  new-Emit,
  new-Sustain,
  new-Exit,
  new-Await_missing,
  new-Await_written,
  new-AwaitCase,
  new-Present,
  new-PresentCase,
  new-Loop,
  new-LoopEach,
  new-Every,
  new-Repeat,
  new-Abort_missing,
  new-Abort_written,
  new-AbortCase,
  new-WeakAbort,
  new-Suspend,
  new-Trap_missing,
  new-Trap_written,
  new-Signal,
  new-Seq,
  new-Par,
  new-part_missing,
  new-part_written,
  traps-stmt,
  traps-Await_written,
  traps-AwaitCase,
  traps-Present,
  traps-PresentCase,
  traps-Loop,
  traps-LoopEach,
  traps-Every,
  traps-Repeat,
  traps-Abort_missing,
  traps-Abort_written,
  traps-AbortCase,
  traps-WeakAbort,
  traps-Suspend,
  traps-Trap_missing,
  traps-Trap_written,
  traps-Signal,
  traps-Seq,
  traps-Par,
  traps-part_written,
  kernel-stmt,
  kernel-Nothing,
  kernel-Pause,
  kernel-Halt,
  kernel-Emit,
  kernel-Sustain,
  kernel-Await_missing,
  kernel-Await_written,
  kernel-AwaitCase,
  kernel-Present,
  kernel-PresentCase,
  kernel-Loop,
  kernel-LoopEach,
  kernel-Every,
  kernel-Repeat,
  kernel-Abort_missing,
  kernel-Abort_written,
  kernel-AbortCase,
  kernel-WeakAbort,
  kernel-Suspend,
  kernel-Trap_missing,
  kernel-Trap_written,
  kernel-Exit,
  kernel-Signal,
  kernel-Seq,
  kernel-Par,
  kernel-part_missing,
  kernel-part_written,
)

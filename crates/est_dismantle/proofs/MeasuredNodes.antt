-- Inner: the measures of each node of the code, as far as they fit.
use Rattle.std.proofs.Common.{◌≡◌, ℕ, suc, ◌+◌, ◌<◌, ◌≤◌, List, [], ◌∷◌, length, length-drop, map, drop, get_or, Option, Some, None, refl, sym, ◌∙◌, ap}
use Rattle.std.proofs.Common.{subst, arith}
use Rattle.std.proofs.lemmas.List.{length-map}
use Rattle.std.proofs.Math.ListN.{drop_of_length-le}
use Rattle.std.specs.declared.alloc.Global.{Global}
use Rattle.std.specs.declared.boxed.Box.{Box}
use Rattle.std.specs.declared.vec.Vec.{Vec}
use Rattle.base_facts.proofs.Lists.{drop-at}
use Rattle.base_types.specs.declared.indices.SigId.{SigId}
use Rattle.base_types.specs.declared.place.Span.{Span}
use Rattle.est_kernel.specs.Terms as terms
use Rattle.est_kernel.specs.Terms.{Expression}
use Rattle.est_ast.specs.declared.flat.FlatCase.{FlatCase, FlatCase', FlatCase-body-None', FlatCase-body-Some', out-FlatCase}
use Rattle.est_ast.specs.declared.flat.FlatDelay.{FlatDelay}
use Rattle.est_ast.specs.declared.flat.FlatExpr.{FlatExpr}
use Rattle.est_ast.specs.declared.flat.FlatExpr.TheVariants as nodes
use Rattle.est_ast.specs.declared.flat.FlatForm.{FlatForm}
use Rattle.est_ast.specs.declared.flat.FlatForm.TheVariants as forms
use Rattle.est_ast.specs.declared.flat.FlatStmt.{FlatStmt}
use Rattle.est_ast.specs.FlatTrees.{exprs, stmts, cases}
use Rattle.est_ast.specs.FlatViews.{flat_expr_of, flat_delay_of, flat_stmt_of, flat_case_of, flat_event_of, flat_body_of}
use Rattle.est_ast.proofs.Exports.{flat_expr-And, flat_expr-Or, flat_form-Seq, flat_form-Par, flat_form-AwaitCase, flat_form-PresentCase, flat_form-AbortCase}
use Rattle.est_dismantle.specs.declared.extent.Extent.{Extent}
use Rattle.est_dismantle.specs.Extents.{IsExtent}
use Rattle.est_dismantle.specs.FlatNodes.{event_measures, events_measures, case_events_measures, stmt_measures, node_measures, part_node_measures}
use Rattle.est_dismantle.specs.FlatNodes.{parts_measures, case_measures, chosen_measures}
use Rattle.est_dismantle.specs.Kernels.{nested, expression, expressions, events}
use Rattle.est_dismantle.specs.Measures.{Measures, test_measures, leaf, over, trapped, joined, tested, copied, raised, awaited, awaited_delay, aborted}
use Rattle.est_dismantle.specs.Measures.{aborted_later, tested_first, abortion_measures, handled_measures, each_measures, each_later_measures, weakly_measures}
use Rattle.est_dismantle.specs.Measures.{suspension_measures, kernel_measures, form_measures, part_measures, stmts_measures, cases_measures}
use Rattle.est_dismantle.proofs.Found.{none-some, some-same}

pub along : (x : Extent) (m n : Measures) → n ≡ m → IsExtent x m → IsExtent x n
along x m n is h = subst (IsExtent x) (sym is) h

-- ---- lists that nest to the right

nested-last : {X : Type 0} (f : X → Measures) (l : List X) (i k : ℕ) (x : X) → suc i ≡ length l → k ≡ i → x ≡ get_or l i x →
    nested joined leaf (map f (drop k l)) ≡ f x
nested-last f l i k x h same is =
    let low : i < length l = omega arith in let end : length l ≤ i + 1 = omega arith in
    ap (λ j. nested joined leaf (map f (drop j l))) same ∙ ap (λ s. nested joined leaf (map f s))
    (drop-at l i x low is ∙ ap (λ s. x ∷ s) (drop_of_length-le l end))

nested-more : {X : Type 0} (f : X → Measures) (l : List X) (x : X) → 0 < length l →
    nested joined leaf (map f (x ∷ l)) ≡ joined (f x) (nested joined leaf (map f l))
nested-more f [] x h = absurd (omega (arith, h))
nested-more f (y ∷ l) x h = refl

nested-step : {X : Type 0} (f : X → Measures) (l : List X) (i k m : ℕ) (x : X) → m < length l → k ≡ i → m ≡ i + 1 → x ≡ get_or l i x →
    nested joined leaf (map f (drop k l)) ≡ joined (f x) (nested joined leaf (map f (drop m l)))
nested-step f l i k m x h same next is =
    let low : i < length l = omega arith in let some : 0 < length (drop (i + 1) l) = omega (arith, length-drop (i + 1) l) in
    ap (λ j. nested joined leaf (map f (drop j l))) same ∙ ap (λ s. nested joined leaf (map f s)) (drop-at l i x low is) ∙ nested-more f (drop (i + 1) l) x some
    ∙ ap (λ j. joined (f x) (nested joined leaf (map f (drop j l)))) (sym next)

-- ---- tests

m-And : (a b : Expression) → test_measures (terms.And a b) ≡ joined (test_measures a) (test_measures b)
unfolding joined
m-And a b = refl

m-Or : (a b : Expression) → test_measures (terms.Or a b) ≡ joined (test_measures a) (test_measures b)
unfolding joined
m-Or a b = refl

m-Tick : test_measures terms.Tick ≡ leaf
unfolding leaf
m-Tick = refl

m-conjunction : (es : List Expression) → test_measures (nested terms.And terms.Tick es) ≡ nested joined leaf (map test_measures es)
m-conjunction [] = m-Tick
m-conjunction (e ∷ []) = refl
m-conjunction (e ∷ (f ∷ es)) = m-And e (nested terms.And terms.Tick (f ∷ es)) ∙ ap (joined (test_measures e)) (m-conjunction (f ∷ es))

m-disjunction : (es : List Expression) → test_measures (nested terms.Or terms.Tick es) ≡ nested joined leaf (map test_measures es)
m-disjunction [] = m-Tick
m-disjunction (e ∷ []) = refl
m-disjunction (e ∷ (f ∷ es)) = m-Or e (nested terms.Or terms.Tick (f ∷ es)) ∙ ap (joined (test_measures e)) (m-disjunction (f ∷ es))

m-exprs : (l : List FlatExpr) → map test_measures (expressions (exprs (map flat_expr_of l))) ≡ map event_measures l
unfolding event_measures
m-exprs [] = refl
m-exprs (e ∷ l) = ap (λ k. test_measures (expression (flat_expr_of e)) ∷ k) (m-exprs l)

m-events : (l : List FlatCase) → map test_measures (events (cases (map flat_case_of l))) ≡ map (λ c. test_measures (expression (flat_event_of c))) l
m-events [] = refl
m-events (c ∷ l) = ap (λ k. test_measures (expression (flat_event_of c)) ∷ k) (m-events l)

pub case-event : (c : FlatCase) → flat_event_of c ≡ flat_expr_of (out-FlatCase c).event
unfolding out-FlatCase denote.Hole.Carrier.out
case-event (FlatCase' event body) = refl

case-event_measures : (c : FlatCase) → test_measures (expression (flat_event_of c)) ≡ event_measures (out-FlatCase c).event
unfolding event_measures
case-event_measures c = ap (λ e. test_measures (expression e)) (case-event c)

pub event-Tick : (x : Extent) (n : FlatExpr) (span : Span) → n ≡ nodes.Tick span → IsExtent x leaf → IsExtent x (event_measures n)
unfolding event_measures leaf
event-Tick x n span is h = along x _ _ (ap event_measures is) h

pub event-Sig : (x : Extent) (n : FlatExpr) (s : SigId) → n ≡ nodes.Sig s → IsExtent x leaf → IsExtent x (event_measures n)
unfolding event_measures leaf
event-Sig x n s is h = along x _ _ (ap event_measures is) h

pub event-Not : (x : Extent) (n : FlatExpr) (e : Box FlatExpr Global) → n ≡ nodes.Not e → IsExtent x (over (event_measures e.value)) →
    IsExtent x (event_measures n)
unfolding event_measures over
event-Not x n e is h = along x _ _ (ap event_measures is) h

pub event-And : (x : Extent) (n : FlatExpr) (v : Vec FlatExpr Global) → n ≡ nodes.And v → IsExtent x (events_measures v.items) → IsExtent x (event_measures n)
unfolding event_measures events_measures
event-And x n v is h = along x _ _ (ap event_measures is ∙ ap (λ e. test_measures (expression e)) (flat_expr-And v)
    ∙ m-conjunction (expressions (exprs (map flat_expr_of v.items))) ∙ ap (nested joined leaf) (m-exprs v.items)) h

pub event-Or : (x : Extent) (n : FlatExpr) (v : Vec FlatExpr Global) → n ≡ nodes.Or v → IsExtent x (events_measures v.items) → IsExtent x (event_measures n)
unfolding event_measures events_measures
event-Or x n v is h = along x _ _ (ap event_measures is ∙ ap (λ e. test_measures (expression e)) (flat_expr-Or v)
    ∙ m-disjunction (expressions (exprs (map flat_expr_of v.items))) ∙ ap (nested joined leaf) (m-exprs v.items)) h

pub ruleset event_extents = (event-Tick, event-Sig, event-Not, event-And, event-Or)

pub events-none : (l : List FlatExpr) → length l ≡ 0 → events_measures l ≡ leaf
unfolding events_measures
events-none [] h = refl
events-none (e ∷ l) h = absurd (omega (arith, h))

pub events-last : (l : List FlatExpr) (i k : ℕ) (e : FlatExpr) → suc i ≡ length l → k ≡ i → e ≡ get_or l i e → events_measures (drop k l) ≡ event_measures e
unfolding events_measures
events-last l i k e h same is = nested-last event_measures l i k e h same is

pub events-step : (l : List FlatExpr) (i k m : ℕ) (e : FlatExpr) → m < length l → k ≡ i → m ≡ i + 1 → e ≡ get_or l i e →
    events_measures (drop k l) ≡ joined (event_measures e) (events_measures (drop m l))
unfolding events_measures
events-step l i k m e h same next is = nested-step event_measures l i k m e h same next is

case_events-nested : (l : List FlatCase) → case_events_measures l ≡ nested joined leaf (map (λ c. test_measures (expression (flat_event_of c))) l)
unfolding case_events_measures
case_events-nested l = m-disjunction (events (cases (map flat_case_of l))) ∙ ap (nested joined leaf) (m-events l)

pub case_events-none : (l : List FlatCase) → length l ≡ 0 → case_events_measures l ≡ leaf
case_events-none [] h = case_events-nested []
case_events-none (c ∷ l) h = absurd (omega (arith, h))

pub case_events-last : (l : List FlatCase) (i k : ℕ) (c : FlatCase) → suc i ≡ length l → k ≡ i → c ≡ get_or l i c →
    case_events_measures (drop k l) ≡ event_measures (out-FlatCase c).event
case_events-last l i k c h same is =
    case_events-nested (drop k l) ∙ nested-last (λ d. test_measures (expression (flat_event_of d))) l i k c h same is ∙ case-event_measures c

pub case_events-step : (l : List FlatCase) (i k m : ℕ) (c : FlatCase) → m < length l → k ≡ i → m ≡ i + 1 → c ≡ get_or l i c →
    case_events_measures (drop k l) ≡ joined (event_measures (out-FlatCase c).event) (case_events_measures (drop m l))
case_events-step l i k m c h same next is =
    case_events-nested (drop k l) ∙ nested-step (λ d. test_measures (expression (flat_event_of d))) l i k m c h same next is
    ∙ ap (joined (test_measures (expression (flat_event_of c)))) (sym (case_events-nested (drop m l)))
    ∙ ap (λ e. joined e (case_events_measures (drop m l))) (case-event_measures c)

-- ---- statements

pub node-Nothing : (x : Extent) (n : FlatForm) → n ≡ forms.Nothing → IsExtent x leaf → IsExtent x (node_measures n)
unfolding node_measures
node-Nothing x n is h = along x _ _ (ap node_measures is) h

pub node-Pause : (x : Extent) (n : FlatForm) → n ≡ forms.Pause → IsExtent x leaf → IsExtent x (node_measures n)
unfolding node_measures
node-Pause x n is h = along x _ _ (ap node_measures is) h

pub node-Halt : (x : Extent) (n : FlatForm) → n ≡ forms.Halt → IsExtent x (over leaf) → IsExtent x (node_measures n)
unfolding node_measures
node-Halt x n is h = along x _ _ (ap node_measures is) h

pub node-Emit : (x : Extent) (n : FlatForm) (s : SigId) → n ≡ forms.Emit s → IsExtent x leaf → IsExtent x (node_measures n)
unfolding node_measures
node-Emit x n s is h = along x _ _ (ap node_measures is) h

pub node-Sustain : (x : Extent) (n : FlatForm) (s : SigId) → n ≡ forms.Sustain s → IsExtent x (over (joined leaf leaf)) → IsExtent x (node_measures n)
unfolding node_measures
node-Sustain x n s is h = along x _ _ (ap node_measures is) h

pub node-Await_missing : (x : Extent) (n : FlatForm) (d : FlatDelay) (q : Option (Box FlatStmt Global)) → n ≡ forms.Await d q → q ≡ None →
    IsExtent x (awaited_delay (flat_delay_of d)) → IsExtent x (node_measures n)
unfolding node_measures
node-Await_missing x n d q is part h = along x _ _ (ap node_measures is ∙ ap (λ o. node_measures (forms.Await d o)) part) h

pub node-Await_written : (x : Extent) (n : FlatForm) (d : FlatDelay) (q : Option (Box FlatStmt Global)) (r : Box FlatStmt Global) → n ≡ forms.Await d q →
    q ≡ Some r → IsExtent x (joined (awaited_delay (flat_delay_of d)) (stmt_measures r.value)) → IsExtent x (node_measures n)
unfolding node_measures stmt_measures
node-Await_written x n d q r is part h = along x _ _ (ap node_measures is ∙ ap (λ o. node_measures (forms.Await d o)) part) h

pub node-AwaitCase : (x : Extent) (n : FlatForm) (v : Vec FlatCase Global) → n ≡ forms.AwaitCase v →
    IsExtent x (joined (awaited (case_events_measures v.items)) (chosen_measures v.items leaf)) → IsExtent x (node_measures n)
unfolding node_measures case_events_measures chosen_measures
node-AwaitCase x n v is h = along x _ _ (ap node_measures is ∙ ap form_measures (flat_form-AwaitCase v)) h

pub node-Present : (x : Extent) (n : FlatForm) (e : FlatExpr) (p q : Option (Box FlatStmt Global)) → n ≡ forms.Present e p q →
    IsExtent x (tested (event_measures e) (part_node_measures p) (part_node_measures q)) → IsExtent x (node_measures n)
unfolding node_measures event_measures part_node_measures
node-Present x n e p q is h = along x _ _ (ap node_measures is) h

pub node-PresentCase : (x : Extent) (n : FlatForm) (v : Vec FlatCase Global) (q : Option (Box FlatStmt Global)) → n ≡ forms.PresentCase v q →
    IsExtent x (chosen_measures v.items (part_node_measures q)) → IsExtent x (node_measures n)
unfolding node_measures chosen_measures part_node_measures
node-PresentCase x n v q is h = along x _ _ (ap node_measures is ∙ ap form_measures (flat_form-PresentCase v q)) h

pub node-Loop : (x : Extent) (n : FlatForm) (p : Box FlatStmt Global) → n ≡ forms.Loop p → IsExtent x (over (stmt_measures p.value)) →
    IsExtent x (node_measures n)
unfolding node_measures stmt_measures
node-Loop x n p is h = along x _ _ (ap node_measures is) h

pub node-LoopEach : (x : Extent) (n : FlatForm) (p : Box FlatStmt Global) (d : FlatDelay) → n ≡ forms.LoopEach p d →
    IsExtent x (each_measures (flat_delay_of d) (stmt_measures p.value)) → IsExtent x (node_measures n)
unfolding node_measures stmt_measures
node-LoopEach x n p d is h = along x _ _ (ap node_measures is) h

pub node-Every : (x : Extent) (n : FlatForm) (d : FlatDelay) (p : Box FlatStmt Global) → n ≡ forms.Every d p →
    IsExtent x (joined (awaited_delay (flat_delay_of d)) (each_later_measures (flat_delay_of d) (stmt_measures p.value))) → IsExtent x (node_measures n)
unfolding node_measures stmt_measures
node-Every x n d p is h = along x _ _ (ap node_measures is) h

pub node-Repeat : (x : Extent) (n : FlatForm) (count : ℕ) (span : Span) (p : Box FlatStmt Global) → n ≡ forms.Repeat count span p →
    IsExtent x (copied count (stmt_measures p.value)) → IsExtent x (node_measures n)
unfolding node_measures stmt_measures
node-Repeat x n count span p is h = along x _ _ (ap node_measures is) h

pub node-Abort_missing : (x : Extent) (n : FlatForm) (p : Box FlatStmt Global) (d : FlatDelay) (q : Option (Box FlatStmt Global)) → n ≡ forms.Abort p d q →
    q ≡ None → IsExtent x (abortion_measures (flat_delay_of d) (stmt_measures p.value)) → IsExtent x (node_measures n)
unfolding node_measures stmt_measures
node-Abort_missing x n p d q is part h = along x _ _ (ap node_measures is ∙ ap (λ o. node_measures (forms.Abort p d o)) part) h

pub node-Abort_written : (x : Extent) (n : FlatForm) (p : Box FlatStmt Global) (d : FlatDelay) (q : Option (Box FlatStmt Global)) (r : Box FlatStmt Global) →
    n ≡ forms.Abort p d q → q ≡ Some r → IsExtent x (handled_measures (tested_first (flat_delay_of d) (aborted_later (flat_delay_of d) (stmt_measures p.value)))
    (stmt_measures r.value)) → IsExtent x (node_measures n)
unfolding node_measures stmt_measures
node-Abort_written x n p d q r is part h = along x _ _ (ap node_measures is ∙ ap (λ o. node_measures (forms.Abort p d o)) part) h

pub node-AbortCase : (x : Extent) (n : FlatForm) (p : Box FlatStmt Global) (v : Vec FlatCase Global) → n ≡ forms.AbortCase p v →
    IsExtent x (handled_measures (aborted (case_events_measures v.items) (stmt_measures p.value)) (chosen_measures v.items leaf)) → IsExtent x (node_measures n)
unfolding node_measures stmt_measures case_events_measures chosen_measures
node-AbortCase x n p v is h = along x _ _ (ap node_measures is ∙ ap form_measures (flat_form-AbortCase p v)) h

pub node-WeakAbort : (x : Extent) (n : FlatForm) (p : Box FlatStmt Global) (d : FlatDelay) → n ≡ forms.WeakAbort p d →
    IsExtent x (weakly_measures (flat_delay_of d) (stmt_measures p.value)) → IsExtent x (node_measures n)
unfolding node_measures stmt_measures
node-WeakAbort x n p d is h = along x _ _ (ap node_measures is) h

pub node-Suspend : (x : Extent) (n : FlatForm) (p : Box FlatStmt Global) (d : FlatDelay) → n ≡ forms.Suspend p d →
    IsExtent x (suspension_measures (flat_delay_of d) (stmt_measures p.value)) → IsExtent x (node_measures n)
unfolding node_measures stmt_measures
node-Suspend x n p d is h = along x _ _ (ap node_measures is) h

pub node-Trap_missing : (x : Extent) (n : FlatForm) (p : Box FlatStmt Global) (q : Option (Box FlatStmt Global)) → n ≡ forms.Trap p q → q ≡ None →
    IsExtent x (trapped (stmt_measures p.value)) → IsExtent x (node_measures n)
unfolding node_measures stmt_measures
node-Trap_missing x n p q is part h = along x _ _ (ap node_measures is ∙ ap (λ o. node_measures (forms.Trap p o)) part) h

pub node-Trap_written : (x : Extent) (n : FlatForm) (p : Box FlatStmt Global) (q : Option (Box FlatStmt Global)) (r : Box FlatStmt Global) →
    n ≡ forms.Trap p q → q ≡ Some r → IsExtent x (handled_measures (joined (stmt_measures p.value) leaf) (stmt_measures r.value)) → IsExtent x (node_measures n)
unfolding node_measures stmt_measures
node-Trap_written x n p q r is part h = along x _ _ (ap node_measures is ∙ ap (λ o. node_measures (forms.Trap p o)) part) h

pub node-Exit : (x : Extent) (n : FlatForm) (k : ℕ) → n ≡ forms.Exit k → IsExtent x leaf → IsExtent x (node_measures n)
unfolding node_measures
node-Exit x n k is h = along x _ _ (ap node_measures is) h

pub node-Signal : (x : Extent) (n : FlatForm) (v : Vec SigId Global) (p : Box FlatStmt Global) → n ≡ forms.Signal v p →
    IsExtent x (raised (length v.items) (stmt_measures p.value)) → IsExtent x (node_measures n)
unfolding node_measures stmt_measures
node-Signal x n v p is h = along x _ _ (ap node_measures is ∙ ap (λ k. raised k (stmt_measures p.value)) (length-map v.items (λ s. s.0))) h

pub node-Seq : (x : Extent) (n : FlatForm) (v : Vec FlatStmt Global) → n ≡ forms.Seq v → IsExtent x (parts_measures v.items) → IsExtent x (node_measures n)
unfolding node_measures parts_measures
node-Seq x n v is h = along x _ _ (ap node_measures is ∙ ap form_measures (flat_form-Seq v)) h

pub node-Par : (x : Extent) (n : FlatForm) (v : Vec FlatStmt Global) → n ≡ forms.Par v → IsExtent x (parts_measures v.items) → IsExtent x (node_measures n)
unfolding node_measures parts_measures
node-Par x n v is h = along x _ _ (ap node_measures is ∙ ap form_measures (flat_form-Par v)) h

pub node-stmt : (x : Extent) (p : FlatStmt) → IsExtent x (node_measures p.form) → IsExtent x (stmt_measures p)
unfolding stmt_measures node_measures
node-stmt x p h = h

pub part-missing : (x : Extent) (q : Option (Box FlatStmt Global)) → q ≡ None → IsExtent x leaf → IsExtent x (part_node_measures q)
unfolding part_node_measures
part-missing x q is h = along x _ _ (ap part_node_measures is) h

pub part-written : (x : Extent) (q : Option (Box FlatStmt Global)) (p : Box FlatStmt Global) → q ≡ Some p → IsExtent x (stmt_measures p.value) →
    IsExtent x (part_node_measures q)
unfolding part_node_measures stmt_measures
part-written x q p is h = along x _ _ (ap part_node_measures is) h

pub ruleset node_extents = (
  node-Nothing,
  node-Pause,
  node-Halt,
  node-Emit,
  node-Sustain,
  node-Await_missing,
  node-Await_written,
  node-AwaitCase,
  node-Present,
  node-PresentCase,
  node-Loop,
  node-LoopEach,
  node-Every,
  node-Repeat,
  node-Abort_missing,
  node-Abort_written,
  node-AbortCase,
  node-WeakAbort,
  node-Suspend,
  node-Trap_missing,
  node-Trap_written,
  node-Exit,
  node-Signal,
  node-Seq,
  node-Par,
  node-stmt,
  part-missing,
  part-written,
)

m-stmts : (l : List FlatStmt) → stmts_measures (stmts (map flat_stmt_of l)) ≡ map stmt_measures l
unfolding stmt_measures
m-stmts [] = refl
m-stmts (p ∷ l) = ap (λ k. kernel_measures (flat_stmt_of p) ∷ k) (m-stmts l)

parts-nested : (l : List FlatStmt) → parts_measures l ≡ nested joined leaf (map stmt_measures l)
unfolding parts_measures
parts-nested l = ap (nested joined leaf) (m-stmts l)

pub parts-none : (l : List FlatStmt) → length l ≡ 0 → parts_measures l ≡ leaf
parts-none [] h = parts-nested []
parts-none (p ∷ l) h = absurd (omega (arith, h))

pub parts-last : (l : List FlatStmt) (i k : ℕ) (p : FlatStmt) → suc i ≡ length l → k ≡ i → p ≡ get_or l i p → parts_measures (drop k l) ≡ stmt_measures p
parts-last l i k p h same is = parts-nested (drop k l) ∙ nested-last stmt_measures l i k p h same is

pub parts-step : (l : List FlatStmt) (i k m : ℕ) (p : FlatStmt) → m < length l → k ≡ i → m ≡ i + 1 → p ≡ get_or l i p →
    parts_measures (drop k l) ≡ joined (stmt_measures p) (parts_measures (drop m l))
parts-step l i k m p h same next is =
    parts-nested (drop k l) ∙ nested-step stmt_measures l i k m p h same next is ∙ ap (joined (stmt_measures p)) (sym (parts-nested (drop m l)))

pub chosen-none : (r : Measures) → chosen_measures [] r ≡ r
unfolding chosen_measures
chosen-none r = refl

chosen-more : (c : FlatCase) (l : List FlatCase) (r : Measures) →
    chosen_measures (c ∷ l) r ≡ tested (event_measures (out-FlatCase c).event) (case_measures c) (chosen_measures l r)
unfolding chosen_measures case_measures
chosen-more c l r = ap (λ e. tested e (part_measures (flat_body_of c)) (cases_measures (cases (map flat_case_of l)) r)) (case-event_measures c)

pub chosen-step : (l : List FlatCase) (i k m : ℕ) (c : FlatCase) (r : Measures) → i < length l → k ≡ i → m ≡ i + 1 → c ≡ get_or l i c →
    chosen_measures (drop k l) r ≡ tested (event_measures (out-FlatCase c).event) (case_measures c) (chosen_measures (drop m l) r)
chosen-step l i k m c r h same next is =
    ap (λ j. chosen_measures (drop j l) r) same ∙ ap (λ s. chosen_measures s r) (drop-at l i c h is) ∙ chosen-more c (drop (i + 1) l) r
    ∙ ap (λ j. tested (event_measures (out-FlatCase c).event) (case_measures c) (chosen_measures (drop j l) r)) (sym next)

pub chosen-past : (l : List FlatCase) (k : ℕ) (r : Measures) → length l ≤ k → chosen_measures (drop k l) r ≡ r
chosen-past l k r h = ap (λ s. chosen_measures s r) (drop_of_length-le l h) ∙ chosen-none r

-- the same of a statement in a box, and of lists that are equal
pub boxed : (x : Extent) (s p : FlatStmt) → s ≡ p → IsExtent x (stmt_measures s) → IsExtent x (stmt_measures p)
boxed x s p is h = subst (λ q. IsExtent x (stmt_measures q)) is h

pub events_in : (x : Extent) (l k : List FlatCase) → l ≡ k → IsExtent x (case_events_measures l) → IsExtent x (case_events_measures k)
events_in x l k is h = subst (λ s. IsExtent x (case_events_measures s)) is h

pub chosen_in : (x : Extent) (l k : List FlatCase) (r : Measures) → l ≡ k → IsExtent x (chosen_measures l r) → IsExtent x (chosen_measures k r)
chosen_in x l k r is h = subst (λ s. IsExtent x (chosen_measures s r)) is h

pub event_of : (x : Extent) (c d : FlatCase) → c ≡ d → IsExtent x (event_measures (out-FlatCase c).event) → IsExtent x (event_measures (out-FlatCase d).event)
event_of x c d is h = subst (λ e. IsExtent x (event_measures (out-FlatCase e).event)) is h

pub case-missing : (c : FlatCase) → (out-FlatCase c).body ≡ None → case_measures c ≡ leaf
unfolding case_measures out-FlatCase denote.Hole.Carrier.out
case-missing (FlatCase' event FlatCase-body-None') h = refl
case-missing (FlatCase' event (FlatCase-body-Some' span form)) h = absurd (none-some (record { span = span; form = form }) (sym h))

pub case-written : (c : FlatCase) (p : FlatStmt) → (out-FlatCase c).body ≡ Some p → case_measures c ≡ stmt_measures p
unfolding case_measures stmt_measures out-FlatCase denote.Hole.Carrier.out
case-written (FlatCase' event FlatCase-body-None') p h = absurd (none-some p h)
case-written (FlatCase' event (FlatCase-body-Some' span form)) p h =
    ap (λ q. kernel_measures (flat_stmt_of q)) (some-same (record { span = span; form = form }) p h)

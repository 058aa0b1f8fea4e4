-- Inner: the first bad count of each node.
use Rattle.std.proofs.Common.{◌≡◌, ℕ, List, [], ◌∷◌, ◌++◌, Option, Some, None, length, drop, get_or, refl, sym, ◌∙◌, ap, ◌+◌, ◌<◌, ◌≤◌}
use Rattle.std.proofs.Math.ListN.{drop_of_length-le}
use Rattle.std.specs.Option.{option_or}
use Rattle.std.specs.declared.alloc.Global.{Global}
use Rattle.std.specs.declared.boxed.Box.{Box}
use Rattle.std.specs.declared.vec.Vec.{Vec}
use Rattle.base_facts.proofs.Lists.{drop-at}
use Rattle.base_types.specs.declared.indices.SigId.{SigId}
use Rattle.base_types.specs.declared.place.Span.{Span}
use Rattle.est_ast.specs.declared.flat.FlatCase.{FlatCase, FlatCase', FlatCase-body-None', FlatCase-body-Some', out-FlatCase}
use Rattle.est_ast.specs.declared.flat.FlatDelay.{FlatDelay}
use Rattle.est_ast.specs.declared.flat.FlatDelay.TheVariants as delays
use Rattle.est_ast.specs.declared.flat.FlatExpr.{FlatExpr}
use Rattle.est_ast.specs.declared.flat.FlatForm.TheVariants as forms
use Rattle.est_ast.specs.declared.flat.FlatStmt.{FlatStmt}
use Rattle.est_ast.specs.FlatViews.{flat_delay_of, flat_stmt_of, flat_part_of, flat_body_of}
use Rattle.est_ast.proofs.Exports.{flat_form-Seq, flat_form-Par, flat_form-AwaitCase, flat_form-PresentCase, flat_form-AbortCase}
use Rattle.est_dismantle.specs.Counts.{bad_count, bad_in_delay, bad_in, bad_in_form, bad_in_part}
use Rattle.est_dismantle.specs.FlatNodes.{first_place, bad_of_count, bad_of_delay, bad_of_stmt, bad_of_form, bad_of_part, bad_of_stmts, bad_of_cases}
use Rattle.est_dismantle.specs.FlatNodes.{bad_of_case}
use Rattle.est_dismantle.proofs.Found.{none-some, some-same}

pub first-append : (a b : List Span) → first_place (a ++ b) ≡ option_or (first_place a) (first_place b)
first-append [] b = refl
first-append (p ∷ a) b = refl

pub or-none : (o : Option Span) → option_or o None ≡ o
or-none None = refl
or-none (Some p) = refl

pub or-assoc : (a b c : Option Span) → option_or (option_or a b) c ≡ option_or a (option_or b c)
or-assoc None b c = refl
or-assoc (Some p) b c = refl

pub bad-stmt : (p : FlatStmt) → bad_of_stmt p ≡ bad_of_form p.form
unfolding bad_of_stmt bad_of_form
bad-stmt p = refl

pub bad-Nothing : bad_of_form forms.Nothing ≡ None
unfolding bad_of_form
bad-Nothing = refl

pub bad-Pause : bad_of_form forms.Pause ≡ None
unfolding bad_of_form
bad-Pause = refl

pub bad-Halt : bad_of_form forms.Halt ≡ None
unfolding bad_of_form
bad-Halt = refl

pub bad-Emit : (s : SigId) → bad_of_form (forms.Emit s) ≡ None
unfolding bad_of_form
bad-Emit s = refl

pub bad-Sustain : (s : SigId) → bad_of_form (forms.Sustain s) ≡ None
unfolding bad_of_form
bad-Sustain s = refl

pub bad-Exit : (k : ℕ) → bad_of_form (forms.Exit k) ≡ None
unfolding bad_of_form
bad-Exit k = refl

pub bad-Await : (d : FlatDelay) (q : Option (Box FlatStmt Global)) → bad_of_form (forms.Await d q) ≡ option_or (bad_of_delay d) (bad_of_part q)
unfolding bad_of_form bad_of_delay bad_of_part
bad-Await d q = first-append (bad_in_delay (flat_delay_of d)) (bad_in_part (flat_part_of q))

pub bad-AwaitCase : (v : Vec FlatCase Global) → bad_of_form (forms.AwaitCase v) ≡ bad_of_cases v.items
unfolding bad_of_form bad_of_cases
bad-AwaitCase v = ap (λ form. first_place (bad_in_form form)) (flat_form-AwaitCase v)

pub bad-Present : (e : FlatExpr) (p q : Option (Box FlatStmt Global)) → bad_of_form (forms.Present e p q) ≡ option_or (bad_of_part p) (bad_of_part q)
unfolding bad_of_form bad_of_part
bad-Present e p q = first-append (bad_in_part (flat_part_of p)) (bad_in_part (flat_part_of q))

pub bad-PresentCase : (v : Vec FlatCase Global) (q : Option (Box FlatStmt Global)) →
    bad_of_form (forms.PresentCase v q) ≡ option_or (bad_of_cases v.items) (bad_of_part q)
unfolding bad_of_form bad_of_cases bad_of_part
bad-PresentCase v q = ap (λ form. first_place (bad_in_form form)) (flat_form-PresentCase v q) ∙ first-append _ (bad_in_part (flat_part_of q))

pub bad-Loop : (p : Box FlatStmt Global) → bad_of_form (forms.Loop p) ≡ bad_of_stmt p.value
unfolding bad_of_form bad_of_stmt
bad-Loop p = refl

pub bad-LoopEach : (p : Box FlatStmt Global) (d : FlatDelay) → bad_of_form (forms.LoopEach p d) ≡ option_or (bad_of_stmt p.value) (bad_of_delay d)
unfolding bad_of_form bad_of_stmt bad_of_delay
bad-LoopEach p d = first-append (bad_in (flat_stmt_of p.value)) (bad_in_delay (flat_delay_of d))

pub bad-Every : (d : FlatDelay) (p : Box FlatStmt Global) → bad_of_form (forms.Every d p) ≡ option_or (bad_of_delay d) (bad_of_stmt p.value)
unfolding bad_of_form bad_of_stmt bad_of_delay
bad-Every d p = first-append (bad_in_delay (flat_delay_of d)) (bad_in (flat_stmt_of p.value))

pub bad-Repeat : (count : ℕ) (span : Span) (p : Box FlatStmt Global) →
    bad_of_form (forms.Repeat count span p) ≡ option_or (bad_of_count count span) (bad_of_stmt p.value)
unfolding bad_of_form bad_of_stmt bad_of_count
bad-Repeat count span p = first-append (bad_count count span) (bad_in (flat_stmt_of p.value))

pub bad-Abort : (p : Box FlatStmt Global) (d : FlatDelay) (q : Option (Box FlatStmt Global)) →
    bad_of_form (forms.Abort p d q) ≡ option_or (bad_of_stmt p.value) (option_or (bad_of_delay d) (bad_of_part q))
unfolding bad_of_form bad_of_stmt bad_of_delay bad_of_part
bad-Abort p d q =
    first-append (bad_in (flat_stmt_of p.value)) (bad_in_delay (flat_delay_of d) ++ bad_in_part (flat_part_of q))
    ∙ ap (option_or (first_place (bad_in (flat_stmt_of p.value)))) (first-append (bad_in_delay (flat_delay_of d)) (bad_in_part (flat_part_of q)))

pub bad-AbortCase : (p : Box FlatStmt Global) (v : Vec FlatCase Global) →
    bad_of_form (forms.AbortCase p v) ≡ option_or (bad_of_stmt p.value) (bad_of_cases v.items)
unfolding bad_of_form bad_of_stmt bad_of_cases
bad-AbortCase p v = ap (λ form. first_place (bad_in_form form)) (flat_form-AbortCase p v) ∙ first-append (bad_in (flat_stmt_of p.value)) _

pub bad-WeakAbort : (p : Box FlatStmt Global) (d : FlatDelay) → bad_of_form (forms.WeakAbort p d) ≡ option_or (bad_of_stmt p.value) (bad_of_delay d)
unfolding bad_of_form bad_of_stmt bad_of_delay
bad-WeakAbort p d = first-append (bad_in (flat_stmt_of p.value)) (bad_in_delay (flat_delay_of d))

pub bad-Suspend : (p : Box FlatStmt Global) (d : FlatDelay) → bad_of_form (forms.Suspend p d) ≡ option_or (bad_of_stmt p.value) (bad_of_delay d)
unfolding bad_of_form bad_of_stmt bad_of_delay
bad-Suspend p d = first-append (bad_in (flat_stmt_of p.value)) (bad_in_delay (flat_delay_of d))

pub bad-Trap : (p : Box FlatStmt Global) (q : Option (Box FlatStmt Global)) → bad_of_form (forms.Trap p q) ≡ option_or (bad_of_stmt p.value) (bad_of_part q)
unfolding bad_of_form bad_of_stmt bad_of_part
bad-Trap p q = first-append (bad_in (flat_stmt_of p.value)) (bad_in_part (flat_part_of q))

pub bad-Signal : (signals : Vec SigId Global) (p : Box FlatStmt Global) → bad_of_form (forms.Signal signals p) ≡ bad_of_stmt p.value
unfolding bad_of_form bad_of_stmt
bad-Signal signals p = refl

pub bad-Seq : (v : Vec FlatStmt Global) → bad_of_form (forms.Seq v) ≡ bad_of_stmts v.items
unfolding bad_of_form bad_of_stmts
bad-Seq v = ap (λ form. first_place (bad_in_form form)) (flat_form-Seq v)

pub bad-Par : (v : Vec FlatStmt Global) → bad_of_form (forms.Par v) ≡ bad_of_stmts v.items
unfolding bad_of_form bad_of_stmts
bad-Par v = ap (λ form. first_place (bad_in_form form)) (flat_form-Par v)

pub bad-missing : bad_of_part None ≡ None
unfolding bad_of_part
bad-missing = refl

pub bad-written : (p : Box FlatStmt Global) → bad_of_part (Some p) ≡ bad_of_stmt p.value
unfolding bad_of_part bad_of_stmt
bad-written p = refl

pub bad-stmts_end : bad_of_stmts [] ≡ None
unfolding bad_of_stmts
bad-stmts_end = refl

pub bad-stmts_more : (p : FlatStmt) (parts : List FlatStmt) → bad_of_stmts (p ∷ parts) ≡ option_or (bad_of_stmt p) (bad_of_stmts parts)
unfolding bad_of_stmts bad_of_stmt
bad-stmts_more p parts = first-append (bad_in (flat_stmt_of p)) _

pub bad-cases_end : bad_of_cases [] ≡ None
unfolding bad_of_cases
bad-cases_end = refl

pub bad-cases_more : (c : FlatCase) (list : List FlatCase) → bad_of_cases (c ∷ list) ≡ option_or (bad_of_case c) (bad_of_cases list)
unfolding bad_of_cases bad_of_case
bad-cases_more c list = first-append (bad_in_part (flat_body_of c)) _

pub bad-Plain : (e : FlatExpr) → bad_of_delay (delays.Plain e) ≡ None
unfolding bad_of_delay
bad-Plain e = refl

pub bad-Immediate : (e : FlatExpr) → bad_of_delay (delays.Immediate e) ≡ None
unfolding bad_of_delay
bad-Immediate e = refl

pub bad-Count : (count : ℕ) (span : Span) (e : FlatExpr) → bad_of_delay (delays.Count count span e) ≡ bad_of_count count span
unfolding bad_of_delay bad_of_count
bad-Count count span e = refl

pub bad-case_missing : (c : FlatCase) → (out-FlatCase c).body ≡ None → bad_of_case c ≡ None
unfolding bad_of_case out-FlatCase denote.Hole.Carrier.out
bad-case_missing (FlatCase' event FlatCase-body-None') h = refl
bad-case_missing (FlatCase' event (FlatCase-body-Some' span form)) h = absurd (none-some (record { span = span; form = form }) (sym h))

pub bad-case_written : (c : FlatCase) (p : FlatStmt) → (out-FlatCase c).body ≡ Some p → bad_of_case c ≡ bad_of_stmt p
unfolding bad_of_case bad_of_stmt out-FlatCase denote.Hole.Carrier.out
bad-case_written (FlatCase' event FlatCase-body-None') p h = absurd (none-some p h)
bad-case_written (FlatCase' event (FlatCase-body-Some' span form)) p h =
    ap (λ q. first_place (bad_in (flat_stmt_of q))) (some-same (record { span = span; form = form }) p h)

pub bad-stmts_at : (l : List FlatStmt) (i : ℕ) (p : FlatStmt) → i < length l → p ≡ get_or l i p →
    bad_of_stmts (drop i l) ≡ option_or (bad_of_stmt p) (bad_of_stmts (drop (i + 1) l))
bad-stmts_at l i p h is = ap bad_of_stmts (drop-at l i p h is) ∙ bad-stmts_more p (drop (i + 1) l)

pub bad-cases_at : (l : List FlatCase) (i : ℕ) (c : FlatCase) → i < length l → c ≡ get_or l i c →
    bad_of_cases (drop i l) ≡ option_or (bad_of_case c) (bad_of_cases (drop (i + 1) l))
bad-cases_at l i c h is = ap bad_of_cases (drop-at l i c h is) ∙ bad-cases_more c (drop (i + 1) l)

pub bad-stmts_past : (l : List FlatStmt) (i : ℕ) → length l ≤ i → bad_of_stmts (drop i l) ≡ None
bad-stmts_past l i h = ap bad_of_stmts (drop_of_length-le l h) ∙ bad-stmts_end

pub bad-cases_past : (l : List FlatCase) (i : ℕ) → length l ≤ i → bad_of_cases (drop i l) ≡ None
bad-cases_past l i h = ap bad_of_cases (drop_of_length-le l h) ∙ bad-cases_end

-- all of them
pub ruleset bad_rows = (
  or-none,
  or-assoc,
  bad-stmt,
  bad-Nothing,
  bad-Pause,
  bad-Halt,
  bad-Emit,
  bad-Sustain,
  bad-Exit,
  bad-Await,
  bad-AwaitCase,
  bad-Present,
  bad-PresentCase,
  bad-Loop,
  bad-LoopEach,
  bad-Every,
  bad-Repeat,
  bad-Abort,
  bad-AbortCase,
  bad-WeakAbort,
  bad-Suspend,
  bad-Trap,
  bad-Signal,
  bad-Seq,
  bad-Par,
  bad-missing,
  bad-written,
  bad-stmts_end,
  bad-stmts_more,
  bad-cases_end,
  bad-cases_more,
  bad-Plain,
  bad-Immediate,
  bad-Count,
)

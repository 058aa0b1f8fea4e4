-- Inner: the kernel of a statement that fits keeps its exits in their traps and its signals in their scopes.
use Rattle.std.proofs.Common.{◌≡◌, ℕ, zero, suc, ◌+◌, ◌<◌, ◌≤◌, ◌==◌, ◌||◌, Bool, true, false, nat_le, cond, List, [], ◌∷◌, length, refl, ap, subst, arith}
use Rattle.std.proofs.Common.{IsTrue}
use Rattle.std.proofs.lemmas.Bool.{eq-eqb}
use Rattle.std.specs.Prelude.{⊤}
use Rattle.base_types.specs.declared.place.Span.{Span}
use Rattle.est_kernel.specs.Terms as terms
use Rattle.est_kernel.specs.Terms.{Term, Expression}
use Rattle.est_kernel.specs.WellFormed.{TestsVisible, ExitsStandInTraps, SignalsFit, with_signal}
use Rattle.est_ast.specs.FlatTrees.{Expr, Tick, Sig, Not, And, Or, Exprs, NoExprs, MoreExprs, Delay, Plain, Immediate, Count, Stmt, At, Form}
use Rattle.est_ast.specs.FlatTrees.{Nothing, Pause, Halt, Emit, Sustain, Await, AwaitCase, Present, PresentCase, Loop, LoopEach, Every, Repeat, Abort}
use Rattle.est_ast.specs.FlatTrees.{AbortCase, WeakAbort, Suspend, Trap, Exit, Signal, Seq, Par, Part, Missing, Written, Stmts, NoStmts, MoreStmts, Cases}
use Rattle.est_ast.specs.FlatTrees.{NoCases, MoreCases}
use Rattle.est_ast.specs.FlatFits.{Scope, binding, in_signals, in_trap, TestFits, TestsFit, DelayFits, AreLocal, Fits, FormFits, PartFits, AllFit, CasesFit}
use Rattle.est_dismantle.specs.Kernels.{nested, sequence, parallel, times, expression, expressions, events, any_event, Traps, exit_code, halting, watching}
use Rattle.est_dismantle.specs.Kernels.{awaiting, awaiting_immediately, awaiting_delay, aborting, aborting_counted, abortion, aborting_handled, handled}
use Rattle.est_dismantle.specs.Kernels.{looping_each, later_delay, aborting_weakly, suspension, locals, kernel, kernel_of_form, part, kernels, chosen}
use Rattle.est_ast.specs.NewSignals.{new_by, new_in, new_in_form, new_in_part, new_in_stmts, new_in_cases}

-- what is visible here is visible there
abbrev Above : (ℕ → Bool) → (ℕ → Bool) → Type 0
Above v w = (t : ℕ) → IsTrue (v t) → IsTrue (w t)

or_right : (a b : Bool) → IsTrue b → IsTrue (a || b)
or_right true b h = refl
or_right false b h = h

or_above : (a b c : Bool) → (IsTrue b → IsTrue c) → IsTrue (a || b) → IsTrue (a || c)
or_above true b c f h = refl
or_above false b c f h = f h

or_left : (a b : Bool) → IsTrue a → IsTrue (a || b)
or_left true b h = refl
or_left false b h = cc

above-with : (s : ℕ) (v : ℕ → Bool) → Above v (with_signal s v)
above-with s v t h = or_right (t == s) (v t) h

with-above : (s : ℕ) (v w : ℕ → Bool) → Above v w → Above (with_signal s v) (with_signal s w)
with-above s v w a t h = or_above (t == s) (v t) (w t) (a t) h

with-self : (s : ℕ) (v : ℕ → Bool) → IsTrue (with_signal s v s)
with-self s v = or_left (s == s) (v s) (eq-eqb s s refl)

-- ---- tests

tests_above : (v w : ℕ → Bool) (e : Expression) → Above v w → TestsVisible v e → TestsVisible w e
tests_above v w terms.Tick a h = tt
tests_above v w (terms.Sig s) a h = a s h
tests_above v w (terms.Not e) a h = tests_above v w e a h
tests_above v w (terms.And e f) a h = (tests_above v w e a h.0, tests_above v w f a h.1)
tests_above v w (terms.Or e f) a h = (tests_above v w e a h.0, tests_above v w f a h.1)

abbrev AllVisible : (ℕ → Bool) → List Expression → Type 0
AllVisible v [] = ⊤
AllVisible v (e ∷ es) = TestsVisible v e × AllVisible v es

and_visible : (v : ℕ → Bool) (es : List Expression) → AllVisible v es → TestsVisible v (nested terms.And terms.Tick es)
and_visible v [] h = tt
and_visible v (e ∷ []) h = h.0
and_visible v (e ∷ (f ∷ es)) h = (h.0, and_visible v (f ∷ es) h.1)

or_visible : (v : ℕ → Bool) (es : List Expression) → AllVisible v es → TestsVisible v (nested terms.Or terms.Tick es)
or_visible v [] h = tt
or_visible v (e ∷ []) h = h.0
or_visible v (e ∷ (f ∷ es)) h = (h.0, or_visible v (f ∷ es) h.1)

mutual
  test_visible : (v : ℕ → Bool) (e : Expr) → TestFits v e → TestsVisible v (expression e)
  test_visible v (Tick span) h = tt
  test_visible v (Sig s) h = h
  test_visible v (Not e) h = test_visible v e h
  test_visible v (And parts) h = and_visible v (expressions parts) (tests_visible v parts h)
  test_visible v (Or parts) h = or_visible v (expressions parts) (tests_visible v parts h)

  tests_visible : (v : ℕ → Bool) (es : Exprs) → TestsFit v es → AllVisible v (expressions es)
  tests_visible v NoExprs h = tt
  tests_visible v (MoreExprs e es) h = (test_visible v e h.0, tests_visible v es h.1)

-- ---- exits

-- how many traps of the source stand around
abbrev pub sources : Traps → ℕ
sources [] = 0
sources (true ∷ traps) = suc (sources traps)
sources (false ∷ traps) = sources traps

exit_placed : (traps : Traps) (k : ℕ) → k < sources traps → (2 ≤ exit_code traps k) × (exit_code traps k < length traps + 2)
exit_placed [] k h = absurd (omega (arith, h))
exit_placed (true ∷ traps) zero h = (omega arith, omega arith)
exit_placed (true ∷ traps) (suc k) h =
    let g = exit_placed traps k (omega (arith, h)) in (omega (arith, g.0), omega (arith, g.1))
exit_placed (false ∷ traps) k h =
    let g = exit_placed traps k h in (omega (arith, g.0), omega (arith, g.1))

-- ---- statements

module _ (inputs interface bound all : ℕ) where
  -- a term with so many traps around it and these signals visible keeps exits and signals in their places
  pub record Placed (n : ℕ) (v : ℕ → Bool) (t : Term) : Type 0 where
    pub exits : ExitsStandInTraps n t
    pub signals : SignalsFit inputs interface all v t

  signals_above : (v w : ℕ → Bool) (t : Term) → Above v w → SignalsFit inputs interface all v t → SignalsFit inputs interface all w t
  signals_above v w terms.Nothing a h = tt
  signals_above v w terms.Pause a h = tt
  signals_above v w (terms.Emit s) a h = (a s h.0, h.1)
  signals_above v w (terms.Exit k) a h = tt
  signals_above v w (terms.Present e p q) a h = (tests_above v w e a h.0, signals_above v w p a h.1, signals_above v w q a h.2)
  signals_above v w (terms.Suspend e p) a h = (tests_above v w e a h.0, signals_above v w p a h.1)
  signals_above v w (terms.Seq p q) a h = (signals_above v w p a h.0, signals_above v w q a h.1)
  signals_above v w (terms.Loop at p) a h = signals_above v w p a h
  signals_above v w (terms.Par p q) a h = (signals_above v w p a h.0, signals_above v w q a h.1)
  signals_above v w (terms.Trap p) a h = signals_above v w p a h
  signals_above v w (terms.Local s p) a h = (h.0, h.1, signals_above (with_signal s v) (with_signal s w) p (with-above s v w a) h.2)
  signals_above v w (terms.Awake e p) a h = (tests_above v w e a h.0, signals_above v w p a h.1)

  above : (n : ℕ) (v w : ℕ → Bool) (t : Term) → Above v w → Placed n v t → Placed n w t
  above n v w t a h = record { exits = h.exits; signals = signals_above v w t a h.signals }

  -- one for each kernel statement
  placed-Nothing : (n : ℕ) (v : ℕ → Bool) → Placed n v terms.Nothing
  placed-Nothing n v = record { exits = tt; signals = tt }

  placed-Pause : (n : ℕ) (v : ℕ → Bool) → Placed n v terms.Pause
  placed-Pause n v = record { exits = tt; signals = tt }

  placed-Emit : (n : ℕ) (v : ℕ → Bool) (s : ℕ) → IsTrue (v s) → inputs ≤ s → Placed n v (terms.Emit s)
  placed-Emit n v s h g = record { exits = tt; signals = (h, g) }

  placed-Exit : (n : ℕ) (v : ℕ → Bool) (k : ℕ) → 2 ≤ k → k < n + 2 → Placed n v (terms.Exit k)
  placed-Exit n v k h g = record { exits = (h, g); signals = tt }

  placed-Present : (n : ℕ) (v : ℕ → Bool) (e : Expression) (p q : Term) → TestsVisible v e → Placed n v p → Placed n v q → Placed n v (terms.Present e p q)
  placed-Present n v e p q t h g = record { exits = (h.exits, g.exits); signals = (t, h.signals, g.signals) }

  placed-Suspend : (n : ℕ) (v : ℕ → Bool) (e : Expression) (p : Term) → TestsVisible v e → Placed n v p → Placed n v (terms.Suspend e p)
  placed-Suspend n v e p t h = record { exits = h.exits; signals = (t, h.signals) }

  placed-Seq : (n : ℕ) (v : ℕ → Bool) (p q : Term) → Placed n v p → Placed n v q → Placed n v (terms.Seq p q)
  placed-Seq n v p q h g = record { exits = (h.exits, g.exits); signals = (h.signals, g.signals) }

  placed-Loop : (n : ℕ) (v : ℕ → Bool) (at : Span) (p : Term) → Placed n v p → Placed n v (terms.Loop at p)
  placed-Loop n v at p h = record { exits = h.exits; signals = h.signals }

  placed-Par : (n : ℕ) (v : ℕ → Bool) (p q : Term) → Placed n v p → Placed n v q → Placed n v (terms.Par p q)
  placed-Par n v p q h g = record { exits = (h.exits, g.exits); signals = (h.signals, g.signals) }

  placed-Trap : (n : ℕ) (v : ℕ → Bool) (p : Term) → Placed (n + 1) v p → Placed n v (terms.Trap p)
  placed-Trap n v p h = record { exits = h.exits; signals = h.signals }

  placed-Local : (n : ℕ) (v : ℕ → Bool) (s : ℕ) (p : Term) → interface ≤ s → s < all → Placed n (with_signal s v) p → Placed n v (terms.Local s p)
  placed-Local n v s p h g k = record { exits = k.exits; signals = (h, g, k.signals) }

  -- lists
  abbrev AllPlaced : ℕ → (ℕ → Bool) → List Term → Type 0
  AllPlaced n v [] = ⊤
  AllPlaced n v (p ∷ ps) = Placed n v p × AllPlaced n v ps

  placed-sequence : (n : ℕ) (v : ℕ → Bool) (ps : List Term) → AllPlaced n v ps → Placed n v (sequence ps)
  placed-sequence n v [] h = placed-Nothing n v
  placed-sequence n v (p ∷ []) h = h.0
  placed-sequence n v (p ∷ (q ∷ ps)) h = placed-Seq n v p (sequence (q ∷ ps)) h.0 (placed-sequence n v (q ∷ ps) h.1)

  placed-parallel : (n : ℕ) (v : ℕ → Bool) (ps : List Term) → AllPlaced n v ps → Placed n v (parallel ps)
  placed-parallel n v [] h = placed-Nothing n v
  placed-parallel n v (p ∷ []) h = h.0
  placed-parallel n v (p ∷ (q ∷ ps)) h = placed-Par n v p (parallel (q ∷ ps)) h.0 (placed-parallel n v (q ∷ ps) h.1)

  all_times : (n : ℕ) (v : ℕ → Bool) (k : ℕ) (p : Term) → Placed n v p → AllPlaced n v (times k p)
  all_times n v zero p h = tt
  all_times n v (suc k) p h = (h, all_times n v k p h)

  placed-times : (n : ℕ) (v : ℕ → Bool) (k : ℕ) (p : Term) → Placed n v p → Placed n v (sequence (times k p))
  placed-times n v k p h = placed-sequence n v (times k p) (all_times n v k p h)

  -- the rows of derived statements
  placed-halting : (n : ℕ) (v : ℕ → Bool) (at : Span) → Placed n v (halting at)
  placed-halting n v at = placed-Loop n v at terms.Pause (placed-Pause n v)

  -- leaves the nearest trap where the event is there
  placed-leaving : (n : ℕ) (v : ℕ → Bool) (e : Expression) → TestsVisible v e → Placed (n + 1) v (terms.Present e (terms.Exit 2) terms.Nothing)
  placed-leaving n v e t = placed-Present (n + 1) v e (terms.Exit 2) terms.Nothing t (placed-Exit (n + 1) v 2 (omega arith) (omega arith))
      (placed-Nothing (n + 1) v)

  placed-watching : (n : ℕ) (v : ℕ → Bool) (at : Span) (e : Expression) → TestsVisible v e → Placed (n + 1) v (watching at e)
  placed-watching n v at e t =
      let leaving = terms.Present e (terms.Exit 2) terms.Nothing in
      placed-Loop (n + 1) v at (terms.Seq terms.Pause leaving) (placed-Seq (n + 1) v terms.Pause leaving (placed-Pause (n + 1) v) (placed-leaving n v e t))

  placed-awaiting : (n : ℕ) (v : ℕ → Bool) (at : Span) (e : Expression) → TestsVisible v e → Placed n v (awaiting at e)
  placed-awaiting n v at e t = placed-Trap n v (watching at e) (placed-watching n v at e t)

  placed-immediately : (n : ℕ) (v : ℕ → Bool) (at : Span) (e : Expression) → TestsVisible v e → Placed n v (awaiting_immediately at e)
  placed-immediately n v at e t =
      let leaving = terms.Present e (terms.Exit 2) terms.Nothing in
      placed-Trap n v (terms.Loop at (terms.Seq leaving terms.Pause)) (placed-Loop (n + 1) v at (terms.Seq leaving terms.Pause)
      (placed-Seq (n + 1) v leaving terms.Pause (placed-leaving n v e t) (placed-Pause (n + 1) v)))

  placed-delay : (n : ℕ) (v : ℕ → Bool) (at : Span) (d : Delay) → DelayFits v d → Placed n v (awaiting_delay at d)
  placed-delay n v at (Plain event) h = placed-awaiting n v at (expression event) (test_visible v event h)
  placed-delay n v at (Immediate event) h = placed-immediately n v at (expression event) (test_visible v event h)
  placed-delay n v at (Count count span event) h =
      placed-times n v count (awaiting at (expression event)) (placed-awaiting n v at (expression event) (test_visible v event h))

  placed-aborting : (n : ℕ) (v : ℕ → Bool) (at : Span) (e : Expression) (code : ℕ) (p : Term) → 2 ≤ code → code < n + 1 + 2 → TestsVisible v e →
      Placed (n + 1) v p → Placed (n + 1) v (aborting at e code p)
  placed-aborting n v at e code p low high t h =
      placed-Par (n + 1) v (terms.Seq (terms.Suspend e p) (terms.Exit code)) (watching at e)
      (placed-Seq (n + 1) v (terms.Suspend e p) (terms.Exit code) (placed-Suspend (n + 1) v e p t h) (placed-Exit (n + 1) v code low high))
      (placed-watching n v at e t)

  placed-counted : (n : ℕ) (v : ℕ → Bool) (at : Span) (count : ℕ) (e : Expression) (x code : ℕ) (p : Term) → 2 ≤ code → code < n + 1 + 2 → inputs ≤ x →
      interface ≤ x → x < all → TestsVisible v e → Placed (n + 1) v p → Placed (n + 1) v (aborting_counted at count e x code p)
  placed-counted n v at count e x code p low high given local bound t h =
      let w = with_signal x v in
      let body = terms.Seq (terms.Suspend (terms.Sig x) p) (terms.Exit code) in
      let waits = sequence (times count (awaiting at e)) in
      let end = terms.Seq (terms.Emit x) (terms.Exit 2) in
      placed-Local (n + 1) v x (terms.Par body (terms.Seq waits end)) local bound (placed-Par (n + 1) w body (terms.Seq waits end)
      (placed-Seq (n + 1) w (terms.Suspend (terms.Sig x) p) (terms.Exit code)
      (placed-Suspend (n + 1) w (terms.Sig x) p (with-self x v) (above (n + 1) v w p (above-with x v) h)) (placed-Exit (n + 1) w code low high))
      (placed-Seq (n + 1) w waits end (placed-times (n + 1) w count (awaiting at e) (placed-awaiting (n + 1) w at e (tests_above v w e (above-with x v) t)))
      (placed-Seq (n + 1) w (terms.Emit x) (terms.Exit 2) (placed-Emit (n + 1) w x (with-self x v) given)
      (placed-Exit (n + 1) w 2 (omega arith) (omega arith)))))

  -- the new signal of an abortion: none, or a local one
  abbrev Numbered : ℕ → Delay → Type 0
  Numbered x d = (inputs ≤ x) × (interface ≤ x) × (x + new_by d ≤ all)

  -- one of two
  placed-if : (n : ℕ) (v : ℕ → Bool) (b : Bool) (p q : Term) → (b ≡ true → Placed n v p) → (b ≡ false → Placed n v q) → Placed n v (cond b p q)
  placed-if n v true p q h g = h refl
  placed-if n v false p q h g = g refl

  counted_bound : (x count : ℕ) → x + cond (nat_le count 1) 0 1 ≤ all → nat_le count 1 ≡ false → x < all
  counted_bound x count h is = omega (arith, ap (λ b. x + cond b 0 1) is, h)

  placed-abortion : (n : ℕ) (v : ℕ → Bool) (at : Span) (d : Delay) (x : ℕ) (p : Term) → Numbered x d → DelayFits v d → Placed (n + 1) v p →
      Placed n v (abortion at d x p)
  placed-abortion n v at (Plain event) x p new t h =
      placed-Trap n v _ (placed-aborting n v at (expression event) 2 p (omega arith) (omega arith) (test_visible v event t) h)
  placed-abortion n v at (Immediate event) x p new t h =
      placed-Present n v (expression event) terms.Nothing (terms.Trap (aborting at (expression event) 2 p)) (test_visible v event t) (placed-Nothing n v)
      (placed-Trap n v (aborting at (expression event) 2 p) (placed-aborting n v at (expression event) 2 p (omega arith) (omega arith)
      (test_visible v event t) h))
  placed-abortion n v at (Count count span event) x p new t h =
      placed-if n v (nat_le count 1) (terms.Trap (aborting at (expression event) 2 p)) (terms.Trap (aborting_counted at count (expression event) x 2 p))
      (λ is. placed-Trap n v (aborting at (expression event) 2 p) (placed-aborting n v at (expression event) 2 p (omega arith) (omega arith)
      (test_visible v event t) h))
      (λ is. placed-Trap n v (aborting_counted at count (expression event) x 2 p)
      (placed-counted n v at count (expression event) x 2 p (omega arith) (omega arith) new.0 new.1 (counted_bound x count new.2 is)
      (test_visible v event t) h))

  placed-aborting_handled : (n : ℕ) (v : ℕ → Bool) (at : Span) (d : Delay) (x : ℕ) (p : Term) → Numbered x d → DelayFits v d → Placed (n + 1 + 1) v p →
      Placed (n + 1 + 1) v (aborting_handled at d x p)
  placed-aborting_handled n v at (Plain event) x p new t h = placed-aborting (n + 1) v at (expression event) 3 p (omega arith) (omega arith)
      (test_visible v event t) h
  placed-aborting_handled n v at (Immediate event) x p new t h =
      placed-Present (n + 1 + 1) v (expression event) (terms.Exit 2) (aborting at (expression event) 3 p) (test_visible v event t)
      (placed-Exit (n + 1 + 1) v 2 (omega arith) (omega arith))
      (placed-aborting (n + 1) v at (expression event) 3 p (omega arith) (omega arith) (test_visible v event t) h)
  placed-aborting_handled n v at (Count count span event) x p new t h =
      placed-if (n + 1 + 1) v (nat_le count 1) (aborting at (expression event) 3 p) (aborting_counted at count (expression event) x 3 p)
      (λ is. placed-aborting (n + 1) v at (expression event) 3 p (omega arith) (omega arith) (test_visible v event t) h)
      (λ is. placed-counted (n + 1) v at count (expression event) x 3 p (omega arith) (omega arith) new.0 new.1 (counted_bound x count new.2 is)
      (test_visible v event t) h)

  placed-handled : (n : ℕ) (v : ℕ → Bool) (p q : Term) → Placed (n + 1 + 1) v p → Placed (n + 1) v q → Placed n v (handled p q)
  placed-handled n v p q h g = placed-Trap n v (terms.Seq (terms.Trap p) q) (placed-Seq (n + 1) v (terms.Trap p) q (placed-Trap (n + 1) v p h) g)

  placed-each : (n : ℕ) (v : ℕ → Bool) (at : Span) (d : Delay) (x : ℕ) (p : Term) → Numbered x d → DelayFits v d → Placed (n + 1) v p →
      Placed n v (looping_each at d x p)
  placed-each n v at d x p new t h =
      placed-Loop n v at (abortion at d x (terms.Seq p (halting at)))
      (placed-abortion n v at d x (terms.Seq p (halting at)) new t (placed-Seq (n + 1) v p (halting at) h (placed-halting (n + 1) v at)))

  later_fits : (v : ℕ → Bool) (d : Delay) → DelayFits v d → DelayFits v (later_delay d)
  later_fits v (Plain event) h = h
  later_fits v (Immediate event) h = h
  later_fits v (Count count span event) h = h

  later_numbered : (x : ℕ) (d : Delay) → Numbered x d → Numbered x (later_delay d)
  later_numbered x (Plain event) h = h
  later_numbered x (Immediate event) h = h
  later_numbered x (Count count span event) h = h

  placed-weakly : (n : ℕ) (v : ℕ → Bool) (at : Span) (d : Delay) (p : Term) → DelayFits v d → Placed (n + 1) v p → Placed n v (aborting_weakly at d p)
  placed-weakly n v at d p t h =
      let left = terms.Seq p (terms.Exit 2) in let right = terms.Seq (awaiting_delay at d) (terms.Exit 2) in
      placed-Trap n v (terms.Par left right) (placed-Par (n + 1) v left right
      (placed-Seq (n + 1) v p (terms.Exit 2) h (placed-Exit (n + 1) v 2 (omega arith) (omega arith)))
      (placed-Seq (n + 1) v (awaiting_delay at d) (terms.Exit 2) (placed-delay (n + 1) v at d t) (placed-Exit (n + 1) v 2 (omega arith) (omega arith))))

  placed-suspension : (n : ℕ) (v : ℕ → Bool) (at : Span) (d : Delay) (p : Term) → DelayFits v d → Placed n v p → Placed n v (suspension at d p)
  placed-suspension n v at (Plain event) p t h = placed-Suspend n v (expression event) p (test_visible v event t) h
  placed-suspension n v at (Immediate event) p t h =
      let e = expression event in let wait = terms.Present e terms.Pause (terms.Exit 2) in
      placed-Seq n v (terms.Trap (terms.Loop at wait)) (terms.Suspend e p)
      (placed-Trap n v (terms.Loop at wait) (placed-Loop (n + 1) v at wait
      (placed-Present (n + 1) v e terms.Pause (terms.Exit 2) (test_visible v event t) (placed-Pause (n + 1) v)
      (placed-Exit (n + 1) v 2 (omega arith) (omega arith)))))
      (placed-Suspend n v e p (test_visible v event t) h)
  placed-suspension n v at (Count count span event) p t h = placed-Suspend n v (expression event) p (test_visible v event t) h

  placed-locals : (n : ℕ) (v : ℕ → Bool) (signals : List ℕ) (p : Term) → bound ≤ all → AreLocal inputs interface bound signals →
      Placed n (binding signals v) p → Placed n v (locals signals p)
  placed-locals n v [] p wide h g = g
  placed-locals n v (s ∷ signals) p wide h g =
      placed-Local n v s (locals signals p) h.0 (omega (arith, h.1, wide)) (placed-locals n (with_signal s v) signals p wide h.2 g)

  -- ---- the expansion

  -- a place in the program, where the next new signal has the number x and there are n of them
  pub record Around (scope : Scope) (others : Traps) (x n : ℕ) : Type 0 where
    pub traps : scope.traps ≡ sources others
    pub given : inputs ≤ x
    pub local : interface ≤ x
    pub room : x + n ≤ all
    pub wide : bound ≤ all

  around : (scope : Scope) (traps : Traps) (x n y m : ℕ) → Around scope traps x n → x ≤ y → y + m ≤ x + n → Around scope traps y m
  around scope traps x n y m h low high = record {
    traps = h.traps;
    given = omega (arith, h.given, low);
    local = omega (arith, h.local, low);
    room = omega (arith, h.room, high);
    wide = h.wide;
  }

  around_new : (scope : Scope) (traps : Traps) (x n : ℕ) → Around scope traps x n → Around scope (false ∷ traps) x n
  around_new scope traps x n h = record { traps = h.traps; given = h.given; local = h.local; room = h.room; wide = h.wide }

  around_source : (scope : Scope) (traps : Traps) (x n : ℕ) → Around scope traps x n → Around (in_trap scope) (true ∷ traps) x n
  around_source scope traps x n h = record { traps = omega (arith, h.traps); given = h.given; local = h.local; room = h.room; wide = h.wide }

  numbered : (scope : Scope) (traps : Traps) (x n : ℕ) (d : Delay) → Around scope traps x n → new_by d ≤ n → Numbered x d
  numbered scope traps x n d h few = (h.given, h.local, omega (arith, h.room, few))

  around_signals : (signals : List ℕ) (scope : Scope) (traps : Traps) (x n : ℕ) → Around scope traps x n → Around (in_signals signals scope) traps x n
  around_signals signals scope traps x n h = record { traps = h.traps; given = h.given; local = h.local; room = h.room; wide = h.wide }

  one_trap : (traps : Traps) (own : Bool) (v : ℕ → Bool) (t : Term) → Placed (length (own ∷ traps)) v t → Placed (length traps + 1) v t
  one_trap traps own v t h =
      let same : length (own ∷ traps) ≡ length traps + 1 = omega arith in
      record { exits = subst (λ n. ExitsStandInTraps n t) same h.exits; signals = h.signals }

  two_traps : (traps : Traps) (own : Bool) (v : ℕ → Bool) (t : Term) → Placed (length (own ∷ (false ∷ traps))) v t → Placed (length traps + 1 + 1) v t
  two_traps traps own v t h =
      let same : length (own ∷ (false ∷ traps)) ≡ length traps + 1 + 1 = omega arith in
      record { exits = subst (λ n. ExitsStandInTraps n t) same h.exits; signals = h.signals }

  events_visible : (scope : Scope) (list : Cases) → CasesFit inputs interface bound scope list → AllVisible scope.visible (events list)
  events_visible scope NoCases h = tt
  events_visible scope (MoreCases event body others) h = (test_visible scope.visible event h.0, events_visible scope others h.2)

  mutual
    pub placed : (scope : Scope) (traps : Traps) (x : ℕ) (p : Stmt) → Around scope traps x (new_in p) → Fits inputs interface bound scope p →
        Placed (length traps) scope.visible (kernel traps x p)
    placed scope traps x (At at form) h fits = placed-form scope traps x at form h fits

    placed-form : (scope : Scope) (traps : Traps) (x : ℕ) (at : Span) (form : Form) → Around scope traps x (new_in_form form) →
        FormFits inputs interface bound scope form → Placed (length traps) scope.visible (kernel_of_form traps x at form)
    placed-form scope traps x at Nothing h fits = placed-Nothing (length traps) scope.visible
    placed-form scope traps x at Pause h fits = placed-Pause (length traps) scope.visible
    placed-form scope traps x at Halt h fits = placed-halting (length traps) scope.visible at
    placed-form scope traps x at (Emit s) h fits = placed-Emit (length traps) scope.visible s fits.0 fits.1
    placed-form scope traps x at (Sustain s) h fits =
        placed-Loop (length traps) scope.visible at (terms.Seq (terms.Emit s) terms.Pause) (placed-Seq (length traps) scope.visible (terms.Emit s) terms.Pause
        (placed-Emit (length traps) scope.visible s fits.0 fits.1) (placed-Pause (length traps) scope.visible))
    placed-form scope traps x at (Await d Missing) h fits = placed-delay (length traps) scope.visible at d fits.0
    placed-form scope traps x at (Await d (Written q)) h fits =
        placed-Seq (length traps) scope.visible (awaiting_delay at d) (kernel traps x q) (placed-delay (length traps) scope.visible at d fits.0)
        (placed scope traps x q h fits.1)
    placed-form scope traps x at (AwaitCase list) h fits =
        placed-Seq (length traps) scope.visible (awaiting at (any_event list)) (chosen traps x list terms.Nothing)
        (placed-awaiting (length traps) scope.visible at (any_event list) (or_visible scope.visible (events list) (events_visible scope list fits)))
        (placed-chosen scope traps x list terms.Nothing h fits (placed-Nothing (length traps) scope.visible))
    placed-form scope traps x at (Present e p q) h fits =
        let n = new_in_part p + new_in_part q in
        placed-Present (length traps) scope.visible (expression e) (part traps x p) (part traps (x + new_in_part p) q) (test_visible scope.visible e fits.0)
        (placed-part scope traps x p (around scope traps x n x (new_in_part p) h (omega arith) (omega arith)) fits.1)
        (placed-part scope traps (x + new_in_part p) q (around scope traps x n (x + new_in_part p) (new_in_part q) h (omega arith) (omega arith)) fits.2)
    placed-form scope traps x at (PresentCase list q) h fits =
        let n = new_in_cases list + new_in_part q in let y = x + new_in_cases list in
        placed-chosen scope traps x list (part traps y q) (around scope traps x n x (new_in_cases list) h (omega arith) (omega arith)) fits.0
        (placed-part scope traps y q (around scope traps x n y (new_in_part q) h (omega arith) (omega arith)) fits.1)
    placed-form scope traps x at (Loop p) h fits =
        placed-Loop (length traps) scope.visible at (kernel traps x p) (placed scope traps x p h fits)
    placed-form scope traps x at (LoopEach p d) h fits =
        let n = new_by d + new_in p in
        placed-each (length traps) scope.visible at d x (kernel (false ∷ traps) (x + new_by d) p) (numbered scope traps x n d h (omega arith)) fits.1
        (one_trap traps false scope.visible (kernel (false ∷ traps) (x + new_by d) p)
        (placed scope (false ∷ traps) (x + new_by d) p (around_new scope traps (x + new_by d) (new_in p)
        (around scope traps x (n) (x + new_by d) (new_in p) h (omega arith) (omega arith))) fits.0))
    placed-form scope traps x at (Every d p) h fits =
        let n = new_by d + new_in p in let body = kernel (false ∷ traps) (x + new_by d) p in
        placed-Seq (length traps) scope.visible (awaiting_delay at d) (looping_each at (later_delay d) x body)
        (placed-delay (length traps) scope.visible at d fits.0)
        (placed-each (length traps) scope.visible at (later_delay d) x body (later_numbered x d (numbered scope traps x n d h (omega arith)))
        (later_fits scope.visible d fits.0)
        (one_trap traps false scope.visible (kernel (false ∷ traps) (x + new_by d) p)
        (placed scope (false ∷ traps) (x + new_by d) p (around_new scope traps (x + new_by d) (new_in p)
        (around scope traps x (n) (x + new_by d) (new_in p) h (omega arith) (omega arith))) fits.1)))
    placed-form scope traps x at (Repeat count span p) h fits =
        placed-times (length traps) scope.visible count (kernel traps x p) (placed scope traps x p h fits)
    placed-form scope traps x at (Abort p d Missing) h fits =
        let n = new_by d + (new_in p + 0) in
        placed-abortion (length traps) scope.visible at d x (kernel (false ∷ traps) (x + new_by d) p) (numbered scope traps x n d h (omega arith)) fits.1
        (one_trap traps false scope.visible (kernel (false ∷ traps) (x + new_by d) p)
        (placed scope (false ∷ traps) (x + new_by d) p (around_new scope traps (x + new_by d) (new_in p)
        (around scope traps x (n) (x + new_by d) (new_in p) h (omega arith) (omega arith))) fits.0))
    placed-form scope traps x at (Abort p d (Written q)) h fits =
        let n = new_by d + (new_in p + new_in q) in let y = x + new_by d + new_in p in
        placed-handled (length traps) scope.visible (aborting_handled at d x (kernel (false ∷ (false ∷ traps)) (x + new_by d) p)) (kernel (false ∷ traps) y q)
        (placed-aborting_handled (length traps) scope.visible at d x (kernel (false ∷ (false ∷ traps)) (x + new_by d) p)
        (numbered scope traps x n d h (omega arith)) fits.1
        (two_traps traps false scope.visible (kernel (false ∷ (false ∷ traps)) (x + new_by d) p)
        (placed scope (false ∷ (false ∷ traps)) (x + new_by d) p (around_new scope (false ∷ traps) (x + new_by d) (new_in p)
        (around_new scope traps (x + new_by d) (new_in p) (around scope traps x (n) (x + new_by d) (new_in p) h (omega arith) (omega arith)))) fits.0)))
        (one_trap traps false scope.visible (kernel (false ∷ traps) (y) q)
        (placed scope (false ∷ traps) (y) q (around_new scope traps (y) (new_in q) (around scope traps x (n) (y) (new_in q) h (omega arith) (omega arith)))
        fits.2))
    placed-form scope traps x at (AbortCase p list) h fits =
        let n = new_in p + new_in_cases list in let y = x + new_in p in let body = kernel (false ∷ (false ∷ traps)) x p in
        placed-handled (length traps) scope.visible (aborting at (any_event list) 3 body) (chosen (false ∷ traps) y list terms.Nothing)
        (placed-aborting (length traps + 1) scope.visible at (any_event list) 3 body (omega arith) (omega arith)
        (or_visible scope.visible (events list) (events_visible scope list fits.1))
        (two_traps traps false scope.visible (kernel (false ∷ (false ∷ traps)) (x) p)
        (placed scope (false ∷ (false ∷ traps)) (x) p (around_new scope (false ∷ traps) (x) (new_in p)
        (around_new scope traps (x) (new_in p) (around scope traps x (n) (x) (new_in p) h (omega arith) (omega arith)))) fits.0)))
        (one_trap traps false scope.visible (chosen (false ∷ traps) y list terms.Nothing) (placed-chosen scope (false ∷ traps) y list terms.Nothing
        (around_new scope traps y (new_in_cases list) (around scope traps x n y (new_in_cases list) h (omega arith) (omega arith))) fits.1
        (placed-Nothing (length (false ∷ traps)) scope.visible)))
    placed-form scope traps x at (WeakAbort p d) h fits =
        placed-weakly (length traps) scope.visible at d (kernel (false ∷ traps) x p) fits.1
        (one_trap traps false scope.visible (kernel (false ∷ traps) x p) (placed scope (false ∷ traps) x p (around_new scope traps x (new_in p) h) fits.0))
    placed-form scope traps x at (Suspend p d) h fits =
        placed-suspension (length traps) scope.visible at d (kernel traps x p) fits.1 (placed scope traps x p h fits.0)
    placed-form scope traps x at (Trap p Missing) h fits =
        placed-Trap (length traps) scope.visible (kernel (true ∷ traps) x p) (one_trap traps true scope.visible (kernel (true ∷ traps) x p)
        (placed (in_trap scope) (true ∷ traps) x p (around_source scope traps x (new_in p)
        (around scope traps x (new_in p + 0) x (new_in p) h (omega arith) (omega arith))) fits.0))
    placed-form scope traps x at (Trap p (Written q)) h fits =
        let n = new_in p + new_in q in let y = x + new_in p in let body = kernel (true ∷ (false ∷ traps)) x p in
        placed-handled (length traps) scope.visible (terms.Seq body (terms.Exit 3)) (kernel (false ∷ traps) y q)
        (placed-Seq (length traps + 1 + 1) scope.visible body (terms.Exit 3) (two_traps traps true scope.visible body
        (placed (in_trap scope) (true ∷ (false ∷ traps)) x p (around_source scope (false ∷ traps) x (new_in p) (around_new scope traps x (new_in p)
        (around scope traps x n x (new_in p) h (omega arith) (omega arith)))) fits.0))
        (placed-Exit (length traps + 1 + 1) scope.visible 3 (omega arith) (omega arith)))
        (one_trap traps false scope.visible (kernel (false ∷ traps) (y) q)
        (placed scope (false ∷ traps) (y) q (around_new scope traps (y) (new_in q) (around scope traps x (n) (y) (new_in q) h (omega arith) (omega arith)))
        fits.1))
    placed-form scope traps x at (Exit k) h fits =
        let g = exit_placed traps k (omega (arith, fits, h.traps)) in placed-Exit (length traps) scope.visible (exit_code traps k) g.0 g.1
    placed-form scope traps x at (Signal signals p) h fits =
        placed-locals (length traps) scope.visible signals (kernel traps x p) h.wide fits.0
        (placed (in_signals signals scope) traps x p (around_signals signals scope traps x (new_in p) h) fits.1)
    placed-form scope traps x at (Seq parts) h fits =
        placed-sequence (length traps) scope.visible (kernels traps x parts) (placed-all scope traps x parts h fits)
    placed-form scope traps x at (Par parts) h fits =
        placed-parallel (length traps) scope.visible (kernels traps x parts) (placed-all scope traps x parts h fits)

    placed-part : (scope : Scope) (traps : Traps) (x : ℕ) (p : Part) → Around scope traps x (new_in_part p) → PartFits inputs interface bound scope p →
        Placed (length traps) scope.visible (part traps x p)
    placed-part scope traps x Missing h fits = placed-Nothing (length traps) scope.visible
    placed-part scope traps x (Written p) h fits = placed scope traps x p h fits

    placed-all : (scope : Scope) (traps : Traps) (x : ℕ) (ps : Stmts) → Around scope traps x (new_in_stmts ps) → AllFit inputs interface bound scope ps →
        AllPlaced (length traps) scope.visible (kernels traps x ps)
    placed-all scope traps x NoStmts h fits = tt
    placed-all scope traps x (MoreStmts p others) h fits =
        let n = new_in p + new_in_stmts others in (
          placed scope traps x p (around scope traps x n x (new_in p) h (omega arith) (omega arith)) fits.0,
          placed-all scope traps (x + new_in p) others (around scope traps x n (x + new_in p) (new_in_stmts others) h (omega arith) (omega arith)) fits.1,
        )

    placed-chosen : (scope : Scope) (traps : Traps) (x : ℕ) (list : Cases) (r : Term) → Around scope traps x (new_in_cases list) →
        CasesFit inputs interface bound scope list → Placed (length traps) scope.visible r → Placed (length traps) scope.visible (chosen traps x list r)
    placed-chosen scope traps x NoCases r h fits g = g
    placed-chosen scope traps x (MoreCases event body others) r h fits g =
        let n = new_in_part body + new_in_cases others in let y = x + new_in_part body in
        placed-Present (length traps) scope.visible (expression event) (part traps x body) (chosen traps y others r) (test_visible scope.visible event fits.0)
        (placed-part scope traps x body (around scope traps x n x (new_in_part body) h (omega arith) (omega arith)) fits.1)
        (placed-chosen scope traps y others r (around scope traps x n y (new_in_cases others) h (omega arith) (omega arith)) fits.2 g)

-- Inner: the measures of an expansion are those that are computed without it.
use Rattle.std.proofs.Common.{◌≡◌, ℕ, zero, suc, ◌+◌, ◌*◌, max, Bool, true, false, nat_le, cond, List, [], ◌∷◌, length, map, refl, ◌∙◌, ap, arith}
use Rattle.base_types.specs.declared.place.Span.{Span}
use Rattle.est_kernel.specs.Terms as terms
use Rattle.est_kernel.specs.Terms.{Term, Expression}
use Rattle.est_kernel.specs.Sizes.{size_of, height_of, trap_depth}
use Rattle.est_ast.specs.FlatTrees.{Delay, Plain, Immediate, Count, Stmt, At, Form, Nothing, Pause, Halt, Emit, Sustain, Await, AwaitCase, Present, PresentCase}
use Rattle.est_ast.specs.FlatTrees.{Loop, LoopEach, Every, Repeat, Abort, AbortCase, WeakAbort, Suspend, Trap, Exit, Signal, Seq, Par, Part, Missing, Written}
use Rattle.est_ast.specs.FlatTrees.{Stmts, NoStmts, MoreStmts, Cases, NoCases, MoreCases}
use Rattle.est_dismantle.specs.Kernels.{nested, sequence, parallel, times, expression, any_event, Traps, exit_code, halting, watching, awaiting, awaiting_delay}
use Rattle.est_dismantle.specs.Kernels.{aborting, aborting_counted, abortion, aborting_handled, handled, looping_each, later_delay, aborting_weakly, suspension}
use Rattle.est_dismantle.specs.Kernels.{locals, kernel, kernel_of_form, part, kernels, chosen}
use Rattle.est_ast.specs.NewSignals.{new_by, new_in, new_in_part, new_in_cases}
use Rattle.est_dismantle.specs.Measures.{Measures, measures_of, test_measures, leaf, over, trapped, joined, tested, suspended, copied, raised, watched, awaited}
use Rattle.est_dismantle.specs.Measures.{awaited_delay, aborted, aborted_counted, aborted_later, tested_first, abortion_measures, handled_measures}
use Rattle.est_dismantle.specs.Measures.{each_measures, each_later_measures, weakly_measures, suspension_measures, kernel_measures, form_measures}
use Rattle.est_dismantle.specs.Measures.{part_measures, stmts_measures, cases_measures}

abbrev measures : ℕ → ℕ → ℕ → Measures
measures s h t = record { size = s; height = h; traps = t }

same_measures : (s t h k a b : ℕ) → s ≡ t → h ≡ k → a ≡ b → measures s h a ≡ measures t k b
same_measures s t h k a b p q r = ap (λ n. measures n h a) p ∙ ap (λ n. measures t n a) q ∙ ap (measures t k) r

-- ---- kernel statements

m-Nothing : measures_of terms.Nothing ≡ leaf
unfolding leaf
m-Nothing = refl

m-Pause : measures_of terms.Pause ≡ leaf
unfolding leaf
m-Pause = refl

m-Emit : (s : ℕ) → measures_of (terms.Emit s) ≡ leaf
unfolding leaf
m-Emit s = refl

m-Exit : (k : ℕ) → measures_of (terms.Exit k) ≡ leaf
unfolding leaf
m-Exit k = refl

m-Sig : (s : ℕ) → test_measures (terms.Sig s) ≡ leaf
unfolding leaf
m-Sig s = refl

m-Local : (s : ℕ) (p : Term) → measures_of (terms.Local s p) ≡ over (measures_of p)
unfolding over
m-Local s p = refl

m-Seq : (p q : Term) → measures_of (terms.Seq p q) ≡ joined (measures_of p) (measures_of q)
unfolding joined
m-Seq p q = refl

m-Par : (p q : Term) → measures_of (terms.Par p q) ≡ joined (measures_of p) (measures_of q)
unfolding joined
m-Par p q = refl

m-Loop : (at : Span) (p : Term) → measures_of (terms.Loop at p) ≡ over (measures_of p)
unfolding over
m-Loop at p = refl

m-Trap : (p : Term) → measures_of (terms.Trap p) ≡ trapped (measures_of p)
unfolding trapped
m-Trap p = refl

m-Present : (e : Expression) (p q : Term) → measures_of (terms.Present e p q) ≡ tested (test_measures e) (measures_of p) (measures_of q)
unfolding tested
m-Present e p q = refl

m-Suspend : (e : Expression) (p : Term) → measures_of (terms.Suspend e p) ≡ suspended (test_measures e) (measures_of p)
unfolding suspended
m-Suspend e p = refl

m-sequence : (ps : List Term) → measures_of (sequence ps) ≡ nested joined leaf (map measures_of ps)
m-sequence [] = m-Nothing
m-sequence (p ∷ []) = refl
m-sequence (p ∷ (q ∷ ps)) = m-Seq p (sequence (q ∷ ps)) ∙ ap (joined (measures_of p)) (m-sequence (q ∷ ps))

m-parallel : (ps : List Term) → measures_of (parallel ps) ≡ nested joined leaf (map measures_of ps)
m-parallel [] = m-Nothing
m-parallel (p ∷ []) = refl
m-parallel (p ∷ (q ∷ ps)) = m-Par p (parallel (q ∷ ps)) ∙ ap (joined (measures_of p)) (m-parallel (q ∷ ps))

times-measures : (n : ℕ) (p : Term) → (size_of (sequence (times (suc n) p)) ≡ suc n * size_of p + n)
    × (height_of (sequence (times (suc n) p)) ≡ n + height_of p) × (trap_depth (sequence (times (suc n) p)) ≡ trap_depth p)
times-measures zero p = (omega arith, omega arith, refl)
times-measures (suc n) p =
    let h = times-measures n p in
    let size : 1 + size_of p + size_of (sequence (times (suc n) p)) ≡ suc (suc n) * size_of p + suc n = omega (arith, h.0) in
    let height : 1 + max (height_of p) (height_of (sequence (times (suc n) p))) ≡ suc n + height_of p = omega (arith, h.1) in
    let traps : max (trap_depth p) (trap_depth (sequence (times (suc n) p))) ≡ trap_depth p = omega (arith, h.2) in
    (size, height, traps)

m-times : (n : ℕ) (p : Term) → measures_of (sequence (times n p)) ≡ copied n (measures_of p)
unfolding copied leaf
m-times zero p = refl
m-times (suc n) p = let h = times-measures n p in same_measures _ _ _ _ _ _ h.0 h.1 h.2

m-locals : (signals : List ℕ) (p : Term) → measures_of (locals signals p) ≡ raised (length signals) (measures_of p)
unfolding raised
m-locals [] p = same_measures _ _ _ _ _ _ (omega arith) (omega arith) refl
m-locals (s ∷ signals) p =
    let h = m-locals signals p in
    same_measures _ _ _ _ _ _ (omega (arith, ap (λ (m : Measures). m.size) h)) (omega (arith, ap (λ (m : Measures). m.height) h))
    (ap (λ (m : Measures). m.traps) h)

-- ---- derived statements; a leaf that is no `nothing` has the measures of `nothing`

m-watching : (at : Span) (e : Expression) → measures_of (watching at e) ≡ watched (test_measures e)
unfolding leaf over joined tested
m-watching at e = refl

m-awaiting : (at : Span) (e : Expression) → measures_of (awaiting at e) ≡ awaited (test_measures e)
unfolding leaf over trapped joined tested
m-awaiting at e = refl

m-delay : (at : Span) (d : Delay) → measures_of (awaiting_delay at d) ≡ awaited_delay d
unfolding leaf over trapped joined tested
m-delay at (Plain event) = refl
m-delay at (Immediate event) = refl
m-delay at (Count count span event) = m-times count (awaiting at (expression event)) ∙ ap (copied count) (m-awaiting at (expression event))

m-aborting : (at : Span) (e : Expression) (code : ℕ) (p : Term) → measures_of (aborting at e code p) ≡ aborted (test_measures e) (measures_of p)
unfolding leaf over trapped joined tested suspended
m-aborting at e code p = refl

m-halting : (at : Span) → measures_of (halting at) ≡ over leaf
unfolding leaf over
m-halting at = refl

m-sustaining : (at : Span) (s : ℕ) → measures_of (terms.Loop at (terms.Seq (terms.Emit s) terms.Pause)) ≡ over (joined leaf leaf)
unfolding leaf over joined
m-sustaining at s = refl

m-end : (x : ℕ) → measures_of (terms.Seq (terms.Emit x) (terms.Exit 2)) ≡ joined leaf leaf
unfolding leaf joined
m-end x = refl

trapped-if : (b : Bool) (m n : Measures) → cond b (trapped m) (trapped n) ≡ trapped (cond b m n)
trapped-if true m n = refl
trapped-if false m n = refl

m-counted : (at : Span) (count : ℕ) (e : Expression) (x code : ℕ) (p : Term) →
    measures_of (aborting_counted at count e x code p) ≡ aborted_counted count (test_measures e) (measures_of p)
m-counted at count e x code p =
    let body = terms.Seq (terms.Suspend (terms.Sig x) p) (terms.Exit code) in
    let waits = sequence (times count (awaiting at e)) in let end = terms.Seq (terms.Emit x) (terms.Exit 2) in
    m-Local x (terms.Par body (terms.Seq waits end)) ∙ ap over (m-Par body (terms.Seq waits end)
    ∙ ap (λ m. joined m (measures_of (terms.Seq waits end))) (m-Seq (terms.Suspend (terms.Sig x) p) (terms.Exit code)
    ∙ ap (λ m. joined m (measures_of (terms.Exit code))) (m-Suspend (terms.Sig x) p ∙ ap (λ m. suspended m (measures_of p)) (m-Sig x))
    ∙ ap (joined (suspended leaf (measures_of p))) (m-Exit code))
    ∙ ap (joined (joined (suspended leaf (measures_of p)) leaf)) (m-Seq waits end
    ∙ ap (λ m. joined m (measures_of end)) (m-times count (awaiting at e) ∙ ap (copied count) (m-awaiting at e))
    ∙ ap (joined (copied count (awaited (test_measures e)))) (m-end x)))

cond-measures : (b : Bool) (p q : Term) (m n : Measures) → measures_of p ≡ m → measures_of q ≡ n → measures_of (cond b p q) ≡ cond b m n
cond-measures true p q m n h g = h
cond-measures false p q m n h g = g

m-abortion : (at : Span) (d : Delay) (x : ℕ) (p : Term) → measures_of (abortion at d x p) ≡ abortion_measures d (measures_of p)
m-abortion at (Plain event) x p = m-Trap (aborting at (expression event) 2 p) ∙ ap trapped (m-aborting at (expression event) 2 p)
m-abortion at (Immediate event) x p =
    m-Present (expression event) terms.Nothing (terms.Trap (aborting at (expression event) 2 p))
    ∙ ap (λ m. tested (test_measures (expression event)) m (measures_of (terms.Trap (aborting at (expression event) 2 p)))) m-Nothing
    ∙ ap (tested (test_measures (expression event)) leaf) (m-Trap (aborting at (expression event) 2 p) ∙ ap trapped (m-aborting at (expression event) 2 p))
m-abortion at (Count count span event) x p =
    let e = expression event in
    cond-measures (nat_le count 1) (terms.Trap (aborting at e 2 p)) (terms.Trap (aborting_counted at count e x 2 p)) _ _
    (m-Trap (aborting at e 2 p) ∙ ap trapped (m-aborting at e 2 p)) (m-Trap (aborting_counted at count e x 2 p) ∙ ap trapped (m-counted at count e x 2 p))
    ∙ trapped-if (nat_le count 1) (aborted (test_measures e) (measures_of p)) (aborted_counted count (test_measures e) (measures_of p))

m-aborting_handled : (at : Span) (d : Delay) (x : ℕ) (p : Term) → measures_of (aborting_handled at d x p) ≡ tested_first d (aborted_later d (measures_of p))
m-aborting_handled at (Plain event) x p = m-aborting at (expression event) 3 p
m-aborting_handled at (Immediate event) x p =
    m-Present (expression event) (terms.Exit 2) (aborting at (expression event) 3 p)
    ∙ ap (λ m. tested (test_measures (expression event)) m (measures_of (aborting at (expression event) 3 p))) (m-Exit 2)
    ∙ ap (tested (test_measures (expression event)) leaf) (m-aborting at (expression event) 3 p)
m-aborting_handled at (Count count span event) x p =
    let e = expression event in
    cond-measures (nat_le count 1) (aborting at e 3 p) (aborting_counted at count e x 3 p) _ _ (m-aborting at e 3 p) (m-counted at count e x 3 p)

m-handled : (p q : Term) → measures_of (handled p q) ≡ handled_measures (measures_of p) (measures_of q)
unfolding trapped joined
m-handled p q = refl

m-each : (at : Span) (d : Delay) (x : ℕ) (p : Term) → measures_of (looping_each at d x p) ≡ each_measures d (measures_of p)
m-each at d x p =
    m-Loop at (abortion at d x (terms.Seq p (halting at)))
    ∙ ap over (m-abortion at d x (terms.Seq p (halting at)) ∙ ap (abortion_measures d) (m-Seq p (halting at) ∙ ap (joined (measures_of p)) (m-halting at)))

later-same : (d : Delay) (p : Measures) → each_measures (later_delay d) p ≡ each_later_measures d p
later-same (Plain event) p = refl
later-same (Immediate event) p = refl
later-same (Count count span event) p = refl

m-weakly : (at : Span) (d : Delay) (p : Term) → measures_of (aborting_weakly at d p) ≡ weakly_measures d (measures_of p)
m-weakly at d p =
    let left = terms.Seq p (terms.Exit 2) in let right = terms.Seq (awaiting_delay at d) (terms.Exit 2) in
    m-Trap (terms.Par left right) ∙ ap trapped (m-Par left right
    ∙ ap (λ m. joined m (measures_of right)) (m-Seq p (terms.Exit 2) ∙ ap (joined (measures_of p)) (m-Exit 2))
    ∙ ap (joined (joined (measures_of p) leaf)) (m-Seq (awaiting_delay at d) (terms.Exit 2)
    ∙ ap (λ m. joined m (measures_of (terms.Exit 2))) (m-delay at d) ∙ ap (joined (awaited_delay d)) (m-Exit 2)))

m-suspension : (at : Span) (d : Delay) (p : Term) → measures_of (suspension at d p) ≡ suspension_measures d (measures_of p)
unfolding leaf over trapped joined tested suspended
m-suspension at (Plain event) p = refl
m-suspension at (Immediate event) p = refl
m-suspension at (Count count span event) p = refl

-- ---- flat statements

mutual
  pub m-kernel : (traps : Traps) (x : ℕ) (p : Stmt) → measures_of (kernel traps x p) ≡ kernel_measures p
  m-kernel traps x (At at form) = m-form traps x at form

  m-form : (traps : Traps) (x : ℕ) (at : Span) (form : Form) → measures_of (kernel_of_form traps x at form) ≡ form_measures form
  m-form traps x at Nothing = m-Nothing
  m-form traps x at Pause = m-Pause
  m-form traps x at Halt = m-halting at
  m-form traps x at (Emit s) = m-Emit s
  m-form traps x at (Sustain s) = m-sustaining at s
  m-form traps x at (Await d Missing) = m-delay at d
  m-form traps x at (Await d (Written q)) =
      m-Seq (awaiting_delay at d) (kernel traps x q) ∙ ap (λ m. joined m (measures_of (kernel traps x q))) (m-delay at d)
      ∙ ap (joined (awaited_delay d)) (m-kernel traps x q)
  m-form traps x at (AwaitCase list) =
      m-Seq (awaiting at (any_event list)) (chosen traps x list terms.Nothing)
      ∙ ap (λ m. joined m (measures_of (chosen traps x list terms.Nothing))) (m-awaiting at (any_event list))
      ∙ ap (joined (awaited (test_measures (any_event list)))) (m-chosen traps x list terms.Nothing ∙ ap (cases_measures list) m-Nothing)
  m-form traps x at (Present e p q) =
      m-Present (expression e) (part traps x p) (part traps (x + new_in_part p) q)
      ∙ ap (λ m. tested (test_measures (expression e)) m (measures_of (part traps (x + new_in_part p) q))) (m-part traps x p)
      ∙ ap (tested (test_measures (expression e)) (part_measures p)) (m-part traps (x + new_in_part p) q)
  m-form traps x at (PresentCase list q) =
      m-chosen traps x list (part traps (x + new_in_cases list) q) ∙ ap (cases_measures list) (m-part traps (x + new_in_cases list) q)
  m-form traps x at (Loop p) = m-Loop at (kernel traps x p) ∙ ap over (m-kernel traps x p)
  m-form traps x at (LoopEach p d) =
      m-each at d x (kernel (false ∷ traps) (x + new_by d) p) ∙ ap (each_measures d) (m-kernel (false ∷ traps) (x + new_by d) p)
  m-form traps x at (Every d p) =
      let body = kernel (false ∷ traps) (x + new_by d) p in
      m-Seq (awaiting_delay at d) (looping_each at (later_delay d) x body)
      ∙ ap (λ m. joined m (measures_of (looping_each at (later_delay d) x body))) (m-delay at d)
      ∙ ap (joined (awaited_delay d)) (m-each at (later_delay d) x body ∙ later-same d (measures_of body)
      ∙ ap (each_later_measures d) (m-kernel (false ∷ traps) (x + new_by d) p))
  m-form traps x at (Repeat count span p) = m-times count (kernel traps x p) ∙ ap (copied count) (m-kernel traps x p)
  m-form traps x at (Abort p d Missing) =
      m-abortion at d x (kernel (false ∷ traps) (x + new_by d) p) ∙ ap (abortion_measures d) (m-kernel (false ∷ traps) (x + new_by d) p)
  m-form traps x at (Abort p d (Written q)) =
      let body = kernel (false ∷ (false ∷ traps)) (x + new_by d) p in let y = x + new_by d + new_in p in
      m-handled (aborting_handled at d x body) (kernel (false ∷ traps) y q)
      ∙ ap (λ m. handled_measures m (measures_of (kernel (false ∷ traps) y q)))
      (m-aborting_handled at d x body ∙ ap (λ m. tested_first d (aborted_later d m)) (m-kernel (false ∷ (false ∷ traps)) (x + new_by d) p))
      ∙ ap (handled_measures (tested_first d (aborted_later d (kernel_measures p)))) (m-kernel (false ∷ traps) y q)
  m-form traps x at (AbortCase p list) =
      let body = kernel (false ∷ (false ∷ traps)) x p in let y = x + new_in p in
      m-handled (aborting at (any_event list) 3 body) (chosen (false ∷ traps) y list terms.Nothing)
      ∙ ap (λ m. handled_measures m (measures_of (chosen (false ∷ traps) y list terms.Nothing)))
      (m-aborting at (any_event list) 3 body ∙ ap (aborted (test_measures (any_event list))) (m-kernel (false ∷ (false ∷ traps)) x p))
      ∙ ap (handled_measures (aborted (test_measures (any_event list)) (kernel_measures p)))
      (m-chosen (false ∷ traps) y list terms.Nothing ∙ ap (cases_measures list) m-Nothing)
  m-form traps x at (WeakAbort p d) = m-weakly at d (kernel (false ∷ traps) x p) ∙ ap (weakly_measures d) (m-kernel (false ∷ traps) x p)
  m-form traps x at (Suspend p d) = m-suspension at d (kernel traps x p) ∙ ap (suspension_measures d) (m-kernel traps x p)
  m-form traps x at (Trap p Missing) = m-Trap (kernel (true ∷ traps) x p) ∙ ap trapped (m-kernel (true ∷ traps) x p)
  m-form traps x at (Trap p (Written q)) =
      let body = kernel (true ∷ (false ∷ traps)) x p in let y = x + new_in p in
      m-handled (terms.Seq body (terms.Exit 3)) (kernel (false ∷ traps) y q)
      ∙ ap (λ m. handled_measures m (measures_of (kernel (false ∷ traps) y q)))
      (m-Seq body (terms.Exit 3) ∙ ap (λ m. joined m (measures_of (terms.Exit 3))) (m-kernel (true ∷ (false ∷ traps)) x p)
      ∙ ap (joined (kernel_measures p)) (m-Exit 3))
      ∙ ap (handled_measures (joined (kernel_measures p) leaf)) (m-kernel (false ∷ traps) y q)
  m-form traps x at (Exit k) = m-Exit (exit_code traps k)
  m-form traps x at (Signal signals p) = m-locals signals (kernel traps x p) ∙ ap (raised (length signals)) (m-kernel traps x p)
  m-form traps x at (Seq parts) = m-sequence (kernels traps x parts) ∙ ap (nested joined leaf) (m-kernels traps x parts)
  m-form traps x at (Par parts) = m-parallel (kernels traps x parts) ∙ ap (nested joined leaf) (m-kernels traps x parts)

  m-part : (traps : Traps) (x : ℕ) (p : Part) → measures_of (part traps x p) ≡ part_measures p
  m-part traps x Missing = m-Nothing
  m-part traps x (Written p) = m-kernel traps x p

  m-kernels : (traps : Traps) (x : ℕ) (ps : Stmts) → map measures_of (kernels traps x ps) ≡ stmts_measures ps
  m-kernels traps x NoStmts = refl
  m-kernels traps x (MoreStmts p others) =
      ap (λ m. m ∷ map measures_of (kernels traps (x + new_in p) others)) (m-kernel traps x p)
      ∙ ap (λ l. kernel_measures p ∷ l) (m-kernels traps (x + new_in p) others)

  m-chosen : (traps : Traps) (x : ℕ) (list : Cases) (r : Term) → measures_of (chosen traps x list r) ≡ cases_measures list (measures_of r)
  m-chosen traps x NoCases r = refl
  m-chosen traps x (MoreCases event body others) r =
      m-Present (expression event) (part traps x body) (chosen traps (x + new_in_part body) others r)
      ∙ ap (λ m. tested (test_measures (expression event)) m (measures_of (chosen traps (x + new_in_part body) others r))) (m-part traps x body)
      ∙ ap (tested (test_measures (expression event)) (part_measures body)) (m-chosen traps (x + new_in_part body) others r)

-- Where no count is bad, new signals are at most the nodes of the kernel term, and the traps around an exit at most its traps.
use Rattle.std.proofs.Common.{◌≡◌, ℕ, zero, suc, ◌+◌, ◌*◌, ◌<◌, ◌≤◌, Bool, true, false, nat_le, cond, [], ◌++◌, length, arith}
use Rattle.std.proofs.Math.Nat.{mul-le-mul_right}
use Rattle.base_types.specs.declared.place.Span.{Span}
use Rattle.est_ast.specs.FlatTrees.{Delay, Plain, Immediate, Count, Stmt, At, Form, Nothing, Pause, Halt, Emit, Sustain, Await, AwaitCase, Present, PresentCase}
use Rattle.est_ast.specs.FlatTrees.{Loop, LoopEach, Every, Repeat, Abort, AbortCase, WeakAbort, Suspend, Trap, Exit, Signal, Seq, Par, Part, Missing, Written}
use Rattle.est_ast.specs.FlatTrees.{Stmts, NoStmts, MoreStmts, Cases, NoCases, MoreCases}
use Rattle.est_ast.specs.NewSignals.{new_by, new_in, new_in_form, new_in_part, new_in_stmts, new_in_cases}
use Rattle.est_kernel.proofs.Exports.{append-nil}
use Rattle.est_dismantle.specs.Counts.{bad_count, bad_in_delay, bad_in, bad_in_form, bad_in_part, bad_in_stmts, bad_in_cases}
use Rattle.est_dismantle.specs.NewTraps.{traps_in, traps_in_form, traps_in_part, traps_in_stmts, traps_in_cases}
use Rattle.est_dismantle.specs.Kernels.{nested, expression, any_event}
use Rattle.est_dismantle.specs.Measures.{Measures, test_measures, leaf, over, trapped, joined, tested, suspended, copied, raised}
use Rattle.est_dismantle.specs.Measures.{awaited, awaited_delay, aborted, aborted_counted, aborted_later, tested_first}
use Rattle.est_dismantle.specs.Measures.{abortion_measures, handled_measures, each_measures, each_later_measures}
use Rattle.est_dismantle.specs.Measures.{weakly_measures, suspension_measures, kernel_measures, form_measures, part_measures}
use Rattle.est_dismantle.specs.Measures.{stmts_measures, cases_measures}

-- ---- counts

counted : (count : ℕ) (span : Span) → bad_count count span ≡ [] → 0 < count
counted zero span h = absurd (cc)
counted (suc n) span h = omega arith

new-few : (d : Delay) → new_by d ≤ 1
new-few (Plain event) = omega arith
new-few (Immediate event) = omega arith
new-few (Count count span event) = by (nat_le count 1)
  where
    by : (b : Bool) → cond b 0 1 ≤ 1
    by true = omega arith
    by false = omega arith

-- ---- measures of a part, and of what holds it: so many more traps, and so many more nodes at least

record Holds (p whole : Measures) (around more : ℕ) : Type 0 where
  traps : around + p.traps ≤ whole.traps
  size : more + p.size ≤ whole.size

fewer : (p whole : Measures) (j k s t : ℕ) → Holds p whole k t → j ≤ k → s ≤ t → Holds p whole j s
fewer p whole j k s t h a b = record { traps = omega (arith, h.traps); size = omega (arith, h.size) }

through : (p q whole : Measures) (j k s t : ℕ) → Holds p q j s → Holds q whole k t → Holds p whole (j + k) (s + t)
through p q whole j k s t h g = record { traps = omega (arith, h.traps, g.traps); size = omega (arith, h.size, g.size) }

itself : (p : Measures) → Holds p p 0 0
itself p = record { traps = omega arith; size = omega arith }

in-over : (p : Measures) → Holds p (over p) 0 1
unfolding over
in-over p = record { traps = omega arith; size = omega arith }

in-trapped : (p : Measures) → Holds p (trapped p) 1 1
unfolding trapped
in-trapped p = record { traps = omega arith; size = omega arith }

in-left : (p q : Measures) → Holds p (joined p q) 0 1
unfolding joined
in-left p q = record { traps = omega arith; size = omega arith }

in-right : (p q : Measures) → Holds q (joined p q) 0 1
unfolding joined
in-right p q = record { traps = omega arith; size = omega arith }

in-both : (p q : Measures) → p.size + q.size ≤ (joined p q).size
unfolding joined
in-both p q = omega arith

in-suspended : (e p : Measures) → Holds p (suspended e p) 0 1
unfolding suspended
in-suspended e p = record { traps = omega arith; size = omega arith }

in-first : (e p q : Measures) → Holds p (tested e p q) 0 1
unfolding tested
in-first e p q = record { traps = omega arith; size = omega arith }

in-second : (e p q : Measures) → Holds q (tested e p q) 0 1
unfolding tested
in-second e p q = record { traps = omega arith; size = omega arith }

in-test : (e p q : Measures) → p.size + q.size ≤ (tested e p q).size
unfolding tested
in-test e p q = omega arith

in-raised : (n : ℕ) (p : Measures) → Holds p (raised n p) 0 0
unfolding raised
in-raised n p = record { traps = omega arith; size = omega arith }

in-copied : (n : ℕ) (p : Measures) → 0 < n → Holds p (copied n p) 0 0
unfolding copied
in-copied zero p some = absurd (omega arith)
in-copied (suc n) p some =
    let e : 1 * p.size ≤ suc n * p.size = mul-le-mul_right p.size (omega arith) in
    record { traps = omega arith; size = omega (arith, e) }

in-aborted : (e p : Measures) → Holds p (aborted e p) 0 1
in-aborted e p =
    let body = joined (suspended e p) leaf in
    fewer p _ 0 0 1 3 (through p body _ 0 0 2 1 (through p (suspended e p) body 0 0 1 1 (in-suspended e p) (in-left (suspended e p) leaf))
    (in-left body _)) (omega arith) (omega arith)

in-counted : (count : ℕ) (e p : Measures) → Holds p (aborted_counted count e p) 0 1
in-counted count e p =
    let body = joined (suspended leaf p) leaf in
    let both = joined body (joined (copied count (awaited e)) (joined leaf leaf)) in
    fewer p (over both) 0 0 1 4 (through p both (over both) 0 0 3 1 (through p body both 0 0 2 1
    (through p (suspended leaf p) body 0 0 1 1 (in-suspended leaf p) (in-left (suspended leaf p) leaf)) (in-left body _)) (in-over both))
    (omega arith) (omega arith)

in-later : (d : Delay) (p : Measures) → Holds p (aborted_later d p) 0 1
in-later (Plain event) p = in-aborted (test_measures (expression event)) p
in-later (Immediate event) p = in-aborted (test_measures (expression event)) p
in-later (Count count span event) p = by (nat_le count 1)
  where
    e : Measures
    e = test_measures (expression event)

    by : (b : Bool) → Holds p (cond b (aborted e p) (aborted_counted count e p)) 0 1
    by true = in-aborted e p
    by false = in-counted count e p

in-tested : (d : Delay) (p : Measures) → Holds p (tested_first d p) 0 0
in-tested (Plain event) p = itself p
in-tested (Immediate event) p = fewer p _ 0 0 0 1 (in-second (test_measures (expression event)) leaf p) (omega arith) (omega arith)
in-tested (Count count span event) p = itself p

in-abortion : (d : Delay) (p : Measures) → Holds p (abortion_measures d p) 1 1
in-abortion d p =
    let later = aborted_later d p in
    fewer p _ 1 1 1 2 (through p (trapped later) _ 1 0 2 0 (through p later (trapped later) 0 1 1 1 (in-later d p) (in-trapped later))
    (in-tested d (trapped later))) (omega arith) (omega arith)

-- a handler stands in one new trap, and what it handles in two
in-handled : (p q : Measures) → Holds p (handled_measures p q) 2 1
in-handled p q =
    let both = joined (trapped p) q in
    fewer p (trapped both) 2 2 1 3 (through p both (trapped both) 1 1 2 1 (through p (trapped p) both 1 0 1 1 (in-trapped p) (in-left (trapped p) q))
    (in-trapped both)) (omega arith) (omega arith)

in-handler : (p q : Measures) → Holds q (handled_measures p q) 1 1
in-handler p q =
    let both = joined (trapped p) q in
    fewer q (trapped both) 1 1 1 2 (through q both (trapped both) 0 1 1 1 (in-right (trapped p) q) (in-trapped both)) (omega arith) (omega arith)

handled-both : (p q : Measures) → p.size + q.size ≤ (handled_measures p q).size
handled-both p q =
    let one = in-trapped p in
    let two = in-trapped (joined (trapped p) q) in
    omega (arith, one.size, two.size, in-both (trapped p) q)

in-each : (d : Delay) (p : Measures) → Holds p (each_measures d p) 1 1
in-each d p =
    let body = joined p (over leaf) in
    let abortion = abortion_measures d body in
    fewer p (over abortion) 1 1 1 3 (through p abortion (over abortion) 1 0 2 1 (through p body abortion 0 1 1 1 (in-left p (over leaf)) (in-abortion d body))
    (in-over abortion)) (omega arith) (omega arith)

in-each_later : (d : Delay) (p : Measures) → Holds p (each_later_measures d p) 1 1
in-each_later d p =
    let body = joined p (over leaf) in
    let later = aborted_later d body in
    fewer p (over (trapped later)) 1 1 1 4 (through p (trapped later) (over (trapped later)) 1 0 3 1
    (through p later (trapped later) 0 1 2 1 (through p body later 0 0 1 1 (in-left p (over leaf)) (in-later d body)) (in-trapped later))
    (in-over (trapped later))) (omega arith) (omega arith)

in-weakly : (d : Delay) (p : Measures) → Holds p (weakly_measures d p) 1 1
in-weakly d p =
    let body = joined p leaf in
    let both = joined body (joined (awaited_delay d) leaf) in
    fewer p (trapped both) 1 1 1 3 (through p both (trapped both) 0 1 2 1 (through p body both 0 0 1 1 (in-left p leaf) (in-left body _))
    (in-trapped both)) (omega arith) (omega arith)

in-suspension : (d : Delay) (p : Measures) → Holds p (suspension_measures d p) 0 1
in-suspension (Plain event) p = in-suspended (test_measures (expression event)) p
in-suspension (Immediate event) p =
    let s = suspended (test_measures (expression event)) p in
    fewer p _ 0 0 1 2 (through p s _ 0 0 1 1 (in-suspended (test_measures (expression event)) p) (in-right _ s)) (omega arith) (omega arith)
in-suspension (Count count span event) p = in-suspended (test_measures (expression event)) p

-- ---- new signals are at most nodes

mutual
  pub new-within : (p : Stmt) → bad_in p ≡ [] → new_in p ≤ (kernel_measures p).size
  new-within (At at form) good = form-within form good

  form-within : (form : Form) → bad_in_form form ≡ [] → new_in_form form ≤ (form_measures form).size
  form-within Nothing good = omega arith
  form-within Pause good = omega arith
  form-within Halt good = omega arith
  form-within (Emit s) good = omega arith
  form-within (Sustain s) good = omega arith
  form-within (Await d Missing) good = omega arith
  form-within (Await d (Written q)) good =
      let g = append-nil (bad_in_delay d) (bad_in q) good in
      let h = in-right (awaited_delay d) (kernel_measures q) in
      omega (arith, new-within q g.1, h.size)
  form-within (AwaitCase list) good =
      let h = in-right (awaited (test_measures (any_event list))) (cases_measures list leaf) in
      omega (arith, cases-within list leaf good, h.size)
  form-within (Present e p q) good =
      let g = append-nil (bad_in_part p) (bad_in_part q) good in
      omega (
        arith,
        part-within p g.0,
        part-within q g.1,
        in-test (test_measures (expression e)) (part_measures p) (part_measures q),
      )
  form-within (PresentCase list q) good =
      let g = append-nil (bad_in_cases list) (bad_in_part q) good in
      omega (arith, cases-within list (part_measures q) g.0, part-within q g.1)
  form-within (Loop p) good = let h = in-over (kernel_measures p) in omega (arith, new-within p good, h.size)
  form-within (LoopEach p d) good =
      let g = append-nil (bad_in p) (bad_in_delay d) good in
      let h = in-each d (kernel_measures p) in
      omega (arith, new-within p g.0, h.size, new-few d)
  form-within (Every d p) good =
      let g = append-nil (bad_in_delay d) (bad_in p) good in
      let h = in-each_later d (kernel_measures p) in
      let k = in-right (awaited_delay d) (each_later_measures d (kernel_measures p)) in
      omega (arith, new-within p g.1, h.size, k.size, new-few d)
  form-within (Repeat count span p) good =
      let g = append-nil (bad_count count span) (bad_in p) good in
      let h = in-copied count (kernel_measures p) (counted count span g.0) in
      omega (arith, new-within p g.1, h.size)
  form-within (Abort p d Missing) good =
      let g = append-nil (bad_in p) (bad_in_delay d ++ []) good in
      let h = in-abortion d (kernel_measures p) in
      omega (arith, new-within p g.0, h.size, new-few d)
  form-within (Abort p d (Written q)) good =
      let g = append-nil (bad_in p) (bad_in_delay d ++ bad_in q) good in
      let k = append-nil (bad_in_delay d) (bad_in q) g.1 in
      let later = in-later d (kernel_measures p) in
      let first = in-tested d (aborted_later d (kernel_measures p)) in
      omega (
        arith,
        new-within p g.0,
        new-within q k.1,
        later.size,
        first.size,
        handled-both (tested_first d (aborted_later d (kernel_measures p))) (kernel_measures q),
        new-few d,
      )
  form-within (AbortCase p list) good =
      let g = append-nil (bad_in p) (bad_in_cases list) good in
      let e = test_measures (any_event list) in
      let h = in-aborted e (kernel_measures p) in
      omega (arith, new-within p g.0, cases-within list leaf g.1, h.size, handled-both (aborted e (kernel_measures p)) (cases_measures list leaf))
  form-within (WeakAbort p d) good =
      let g = append-nil (bad_in p) (bad_in_delay d) good in
      let h = in-weakly d (kernel_measures p) in
      omega (arith, new-within p g.0, h.size)
  form-within (Suspend p d) good =
      let g = append-nil (bad_in p) (bad_in_delay d) good in
      let h = in-suspension d (kernel_measures p) in
      omega (arith, new-within p g.0, h.size)
  form-within (Trap p Missing) good =
      let g = append-nil (bad_in p) [] good in
      let h = in-trapped (kernel_measures p) in
      omega (arith, new-within p g.0, h.size)
  form-within (Trap p (Written q)) good =
      let g = append-nil (bad_in p) (bad_in q) good in
      let h = in-left (kernel_measures p) leaf in
      omega (arith, new-within p g.0, new-within q g.1, h.size, handled-both (joined (kernel_measures p) leaf) (kernel_measures q))
  form-within (Exit k) good = omega arith
  form-within (Signal signals p) good = let h = in-raised (length signals) (kernel_measures p) in omega (arith, new-within p good, h.size)
  form-within (Seq parts) good = stmts-within parts good
  form-within (Par parts) good = stmts-within parts good

  part-within : (q : Part) → bad_in_part q ≡ [] → new_in_part q ≤ (part_measures q).size
  part-within Missing good = omega arith
  part-within (Written p) good = new-within p good

  stmts-within : (parts : Stmts) → bad_in_stmts parts ≡ [] → new_in_stmts parts ≤ (nested joined leaf (stmts_measures parts)).size
  stmts-within NoStmts good = omega arith
  stmts-within (MoreStmts p NoStmts) good = let g = append-nil (bad_in p) [] good in omega (arith, new-within p g.0)
  stmts-within (MoreStmts p (MoreStmts q others)) good =
      let g = append-nil (bad_in p) (bad_in_stmts (MoreStmts q others)) good in
      omega (
        arith,
        new-within p g.0,
        stmts-within (MoreStmts q others) g.1,
        in-both (kernel_measures p) (nested joined leaf (stmts_measures (MoreStmts q others))),
      )

  cases-within : (list : Cases) (r : Measures) → bad_in_cases list ≡ [] → new_in_cases list + r.size ≤ (cases_measures list r).size
  cases-within NoCases r good = omega arith
  cases-within (MoreCases event body others) r good =
      let g = append-nil (bad_in_part body) (bad_in_cases others) good in
      omega (
        arith,
        part-within body g.0,
        cases-within others r g.1,
        in-test (test_measures (expression event)) (part_measures body) (cases_measures others r),
      )

-- what stands behind cases has no more traps than all
last-case : (list : Cases) (r : Measures) → r.traps ≤ (cases_measures list r).traps
last-case NoCases r = omega arith
last-case (MoreCases event body others) r =
    let h = in-second (test_measures (expression event)) (part_measures body) (cases_measures others r) in
    omega (arith, last-case others r, h.traps)

-- ---- traps around an exit are at most those of the kernel term

mutual
  pub traps-within : (p : Stmt) → bad_in p ≡ [] → traps_in p ≤ (kernel_measures p).traps
  traps-within (At at form) good = form-traps form good

  form-traps : (form : Form) → bad_in_form form ≡ [] → traps_in_form form ≤ (form_measures form).traps
  form-traps Nothing good = omega arith
  form-traps Pause good = omega arith
  form-traps Halt good = omega arith
  form-traps (Emit s) good = omega arith
  form-traps (Sustain s) good = omega arith
  form-traps (Await d Missing) good = omega arith
  form-traps (Await d (Written q)) good =
      let g = append-nil (bad_in_delay d) (bad_in q) good in
      let h = in-right (awaited_delay d) (kernel_measures q) in
      omega (arith, traps-within q g.1, h.traps)
  form-traps (AwaitCase list) good =
      let h = in-right (awaited (test_measures (any_event list))) (cases_measures list leaf) in
      omega (arith, cases-traps list leaf good, h.traps)
  form-traps (Present e p q) good =
      let g = append-nil (bad_in_part p) (bad_in_part q) good in
      let h = in-first (test_measures (expression e)) (part_measures p) (part_measures q) in
      let k = in-second (test_measures (expression e)) (part_measures p) (part_measures q) in
      omega (arith, part-traps p g.0, part-traps q g.1, h.traps, k.traps)
  form-traps (PresentCase list q) good =
      let g = append-nil (bad_in_cases list) (bad_in_part q) good in
      omega (arith, cases-traps list (part_measures q) g.0, part-traps q g.1, last-case list (part_measures q))
  form-traps (Loop p) good = let h = in-over (kernel_measures p) in omega (arith, traps-within p good, h.traps)
  form-traps (LoopEach p d) good =
      let g = append-nil (bad_in p) (bad_in_delay d) good in
      let h = in-each d (kernel_measures p) in
      omega (arith, traps-within p g.0, h.traps)
  form-traps (Every d p) good =
      let g = append-nil (bad_in_delay d) (bad_in p) good in
      let h = in-each_later d (kernel_measures p) in
      let k = in-right (awaited_delay d) (each_later_measures d (kernel_measures p)) in
      omega (arith, traps-within p g.1, h.traps, k.traps)
  form-traps (Repeat count span p) good =
      let g = append-nil (bad_count count span) (bad_in p) good in
      let h = in-copied count (kernel_measures p) (counted count span g.0) in
      omega (arith, traps-within p g.1, h.traps)
  form-traps (Abort p d Missing) good =
      let g = append-nil (bad_in p) (bad_in_delay d ++ []) good in
      let h = in-abortion d (kernel_measures p) in
      omega (arith, traps-within p g.0, h.traps)
  form-traps (Abort p d (Written q)) good =
      let g = append-nil (bad_in p) (bad_in_delay d ++ bad_in q) good in
      let k = append-nil (bad_in_delay d) (bad_in q) g.1 in
      let later = in-later d (kernel_measures p) in
      let first = in-tested d (aborted_later d (kernel_measures p)) in
      let whole = tested_first d (aborted_later d (kernel_measures p)) in
      let body = in-handled whole (kernel_measures q) in
      let rest = in-handler whole (kernel_measures q) in
      omega (arith, traps-within p g.0, traps-within q k.1, later.traps, first.traps, body.traps, rest.traps)
  form-traps (AbortCase p list) good =
      let g = append-nil (bad_in p) (bad_in_cases list) good in
      let e = test_measures (any_event list) in
      let own = in-aborted e (kernel_measures p) in
      let body = in-handled (aborted e (kernel_measures p)) (cases_measures list leaf) in
      let rest = in-handler (aborted e (kernel_measures p)) (cases_measures list leaf) in
      omega (arith, traps-within p g.0, cases-traps list leaf g.1, own.traps, body.traps, rest.traps)
  form-traps (WeakAbort p d) good =
      let g = append-nil (bad_in p) (bad_in_delay d) good in
      let h = in-weakly d (kernel_measures p) in
      omega (arith, traps-within p g.0, h.traps)
  form-traps (Suspend p d) good =
      let g = append-nil (bad_in p) (bad_in_delay d) good in
      let h = in-suspension d (kernel_measures p) in
      omega (arith, traps-within p g.0, h.traps)
  form-traps (Trap p Missing) good =
      let g = append-nil (bad_in p) [] good in
      let h = in-trapped (kernel_measures p) in
      omega (arith, traps-within p g.0, h.traps)
  form-traps (Trap p (Written q)) good =
      let g = append-nil (bad_in p) (bad_in q) good in
      let own = in-left (kernel_measures p) leaf in
      let body = in-handled (joined (kernel_measures p) leaf) (kernel_measures q) in
      let rest = in-handler (joined (kernel_measures p) leaf) (kernel_measures q) in
      omega (arith, traps-within p g.0, traps-within q g.1, own.traps, body.traps, rest.traps)
  form-traps (Exit k) good = omega arith
  form-traps (Signal signals p) good = let h = in-raised (length signals) (kernel_measures p) in omega (arith, traps-within p good, h.traps)
  form-traps (Seq parts) good = stmts-traps parts good
  form-traps (Par parts) good = stmts-traps parts good

  part-traps : (q : Part) → bad_in_part q ≡ [] → traps_in_part q ≤ (part_measures q).traps
  part-traps Missing good = omega arith
  part-traps (Written p) good = traps-within p good

  stmts-traps : (parts : Stmts) → bad_in_stmts parts ≡ [] → traps_in_stmts parts ≤ (nested joined leaf (stmts_measures parts)).traps
  stmts-traps NoStmts good = omega arith
  stmts-traps (MoreStmts p NoStmts) good = let g = append-nil (bad_in p) [] good in omega (arith, traps-within p g.0)
  stmts-traps (MoreStmts p (MoreStmts q others)) good =
      let g = append-nil (bad_in p) (bad_in_stmts (MoreStmts q others)) good in
      let rest = nested joined leaf (stmts_measures (MoreStmts q others)) in
      let h = in-left (kernel_measures p) rest in
      let k = in-right (kernel_measures p) rest in
      omega (arith, traps-within p g.0, stmts-traps (MoreStmts q others) g.1, h.traps, k.traps)

  cases-traps : (list : Cases) (r : Measures) → bad_in_cases list ≡ [] → traps_in_cases list ≤ (cases_measures list r).traps
  cases-traps NoCases r good = omega arith
  cases-traps (MoreCases event body others) r good =
      let g = append-nil (bad_in_part body) (bad_in_cases others) good in
      let h = in-first (test_measures (expression event)) (part_measures body) (cases_measures others r) in
      let k = in-second (test_measures (expression event)) (part_measures body) (cases_measures others r) in
      omega (arith, part-traps body g.0, cases-traps others r g.1, h.traps, k.traps)

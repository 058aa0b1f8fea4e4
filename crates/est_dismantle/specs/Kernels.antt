-- To believe: kernel expansion. Each statement stands for a kernel term, one row a form. The kernel is that of Berry,
-- "The Constructive Semantics of Pure Esterel"; the derived statements are those of Esterel V5.
--
-- In the comments, p and q are parts, e is a test, T and N are traps and x is a signal that no source name means. A
-- list that is written in one place nests to the right: `a; b; c` is `a` and then the sequence of `b` and `c`; a part
-- that is a list itself stays one part. A part that is left out is `nothing`. An exit has the code 2 plus the number of
-- kernel traps between it and its trap.
use Rattle.std.specs.Prelude.{ℕ, zero, suc, ◌+◌, Bool, true, false, nat_le, if◌then◌else◌, List, [], ◌∷◌}
use Rattle.base_types.specs.declared.place.Span.{Span}
use Rattle.est_kernel.specs.Terms as terms
use Rattle.est_kernel.specs.Terms.{Term, Expression}
use Rattle.est_ast.specs.FlatTrees.{Expr, Tick, Sig, Not, And, Or, Exprs, NoExprs, MoreExprs, Delay}
use Rattle.est_ast.specs.FlatTrees.{Plain, Immediate, Count, Stmt, At, Form, Nothing, Pause, Halt, Emit, Sustain, Await}
use Rattle.est_ast.specs.FlatTrees.{AwaitCase, Present, PresentCase, Loop, LoopEach, Every, Repeat, Abort, AbortCase}
use Rattle.est_ast.specs.FlatTrees.{WeakAbort, Suspend, Trap, Exit, Signal, Seq, Par, Part, Missing, Written, Stmts}
use Rattle.est_ast.specs.FlatTrees.{NoStmts, MoreStmts, Cases, NoCases, MoreCases}
use Rattle.est_ast.specs.NewSignals.{new_by, new_in, new_in_part, new_in_cases}

-- ---- lists and tests

-- parts joined to the right; where there is none, what is given for that
abbrev pub nested : {A : Type 0} → (A → A → A) → A → List A → A
nested join none [] = none
nested join none (p ∷ []) = p
nested join none (p ∷ (q ∷ ps)) = join p (nested join none (q ∷ ps))

-- parts one after another, and parts side by side
abbrev pub sequence : List Term → Term
sequence ps = nested terms.Seq terms.Nothing ps

abbrev pub parallel : List Term → Term
parallel ps = nested terms.Par terms.Nothing ps

-- n copies
abbrev pub times : ℕ → Term → List Term
times zero p = []
times (suc n) p = p ∷ times n p

-- A test: brackets are their content, and lists nest to the right.
abbrev mutual
  pub expression : Expr → Expression
  expression (Tick span) = terms.Tick
  expression (Sig s) = terms.Sig s
  expression (Not e) = terms.Not (expression e)
  expression (And parts) = nested terms.And terms.Tick (expressions parts)
  expression (Or parts) = nested terms.Or terms.Tick (expressions parts)

  pub expressions : Exprs → List Expression
  expressions NoExprs = []
  expressions (MoreExprs e others) = expression e ∷ expressions others

-- the events of cases
abbrev pub events : Cases → List Expression
events NoCases = []
events (MoreCases event body others) = expression event ∷ events others

-- any of the events of cases; of one event it is that event
abbrev pub any_event : Cases → Expression
any_event cases = nested terms.Or terms.Tick (events cases)

-- ---- traps

-- The traps around a statement, the nearest first: true for a trap of the source, false for one that an expansion puts
-- there.
abbrev pub Traps : Type 0
Traps = List Bool

-- the code of an exit that leaves the source trap with k source traps between
abbrev pub exit_code : Traps → ℕ → ℕ
exit_code [] k = 2
exit_code (true ∷ traps) zero = 2
exit_code (true ∷ traps) (suc k) = suc (exit_code traps k)
exit_code (false ∷ traps) k = suc (exit_code traps k)

-- ---- the rows of derived statements, over kernel terms

-- loop pause end
abbrev pub halting : Span → Term
halting at = terms.Loop at terms.Pause

-- loop pause; present e then exit T end end, with T the nearest trap
abbrev pub watching : Span → Expression → Term
watching at e = terms.Loop at (terms.Seq terms.Pause (terms.Present e (terms.Exit 2) terms.Nothing))

-- await e: trap T in loop pause; present e then exit T end end end
abbrev pub awaiting : Span → Expression → Term
awaiting at e = terms.Trap (watching at e)

-- await immediate e: trap T in loop present e then exit T end; pause end end
abbrev pub awaiting_immediately : Span → Expression → Term
awaiting_immediately at e =
    terms.Trap (terms.Loop at (terms.Seq (terms.Present e (terms.Exit 2) terms.Nothing) terms.Pause))

-- await d; await n e is n times await e in one sequence
abbrev pub awaiting_delay : Span → Delay → Term
awaiting_delay at (Plain event) = awaiting at (expression event)
awaiting_delay at (Immediate event) = awaiting_immediately at (expression event)
awaiting_delay at (Count count span event) = sequence (times count (awaiting at (expression event)))

-- suspend p when e; exit, in parallel with what watches for e: the body of an abortion
abbrev pub aborting : Span → Expression → ℕ → Term → Term
aborting at e code p = terms.Par (terms.Seq (terms.Suspend e p) (terms.Exit code)) (watching at e)

-- the same by a count, with a new signal x: signal x in [suspend p when x; exit] || [await n e; emit x; exit T] end
abbrev pub aborting_counted : Span → ℕ → Expression → ℕ → ℕ → Term → Term
aborting_counted at count e x code p =
    terms.Local x (terms.Par (terms.Seq (terms.Suspend (terms.Sig x) p) (terms.Exit code))
    (terms.Seq (sequence (times count (awaiting at e))) (terms.Seq (terms.Emit x) (terms.Exit 2))))

-- An abortion without `do`, by a delay, with the number of the next new signal:
--   abort p when e:           trap T in [suspend p when e; exit T] || [loop pause; present e then exit T end end] end
--   abort p when immediate e: present e else abort p when e end
--   abort p when n e:         trap T in signal x in [suspend p when x; exit T] || [await n e; emit x; exit T] end end
-- A count of 1 means the same as no count.
abbrev pub abortion : Span → Delay → ℕ → Term → Term
abortion at (Plain event) x p = terms.Trap (aborting at (expression event) 2 p)
abortion at (Immediate event) x p =
    terms.Present (expression event) terms.Nothing (terms.Trap (aborting at (expression event) 2 p))
abortion at (Count count span event) x p =
    if nat_le count 1 then terms.Trap (aborting at (expression event) 2 p)
    else terms.Trap (aborting_counted at count (expression event) x 2 p)

-- What an abortion with `do` runs inside its two traps, the outer N and the inner T: p leaves N where it ends.
abbrev pub aborting_handled : Span → Delay → ℕ → Term → Term
aborting_handled at (Plain event) x p = aborting at (expression event) 3 p
aborting_handled at (Immediate event) x p =
    terms.Present (expression event) (terms.Exit 2) (aborting at (expression event) 3 p)
aborting_handled at (Count count span event) x p =
    if nat_le count 1 then aborting at (expression event) 3 p
    else aborting_counted at count (expression event) x 3 p

-- trap N in trap T in p end; q end
abbrev pub handled : Term → Term → Term
handled p q = terms.Trap (terms.Seq (terms.Trap p) q)

-- loop (abort p; halt when d) end
abbrev pub looping_each : Span → Delay → ℕ → Term → Term
looping_each at delay x p = terms.Loop at (abortion at delay x (terms.Seq p (halting at)))

-- the delay of the loop in `every d`: an immediate one waits at once, and later ones do not
abbrev pub later_delay : Delay → Delay
later_delay (Plain event) = Plain event
later_delay (Immediate event) = Plain event
later_delay (Count count span event) = Count count span event

-- trap T in p; exit T || await d; exit T end
abbrev pub aborting_weakly : Span → Delay → Term → Term
aborting_weakly at delay p =
    terms.Trap (terms.Par (terms.Seq p (terms.Exit 2)) (terms.Seq (awaiting_delay at delay) (terms.Exit 2)))

-- suspend p when immediate e:
--   trap T in loop present e then pause else exit T end end end; suspend p when e
-- There is no count.
abbrev pub suspension : Span → Delay → Term → Term
suspension at (Plain event) p = terms.Suspend (expression event) p
suspension at (Immediate event) p =
    terms.Seq (terms.Trap (terms.Loop at (terms.Present (expression event) terms.Pause (terms.Exit 2))))
    (terms.Suspend (expression event) p)
suspension at (Count count span event) p = terms.Suspend (expression event) p

-- local signals, the first outermost
abbrev pub locals : List ℕ → Term → Term
locals [] p = p
locals (s ∷ ss) p = terms.Local s (locals ss p)

-- ---- expansion

-- The traps around the body of an abortion and around what it does at its end: one new trap, or with `do` two
-- around the body and one around the rest.
abbrev pub around_body : Part → Traps → Traps
around_body Missing traps = false ∷ traps
around_body (Written q) traps = false ∷ false ∷ traps

-- The kernel term of a statement, where these traps stand around it and the next new signal has the number x. The parts
-- of a statement have the new signals in the order in which they are written, after that of the statement.
abbrev mutual
  pub kernel : Traps → ℕ → Stmt → Term
  kernel traps x (At at form) = kernel_of_form traps x at form

  pub kernel_of_form : Traps → ℕ → Span → Form → Term
  kernel_of_form traps x at Nothing = terms.Nothing
  kernel_of_form traps x at Pause = terms.Pause
  kernel_of_form traps x at Halt = halting at
  kernel_of_form traps x at (Emit s) = terms.Emit s
  -- loop emit s; pause end
  kernel_of_form traps x at (Sustain s) = terms.Loop at (terms.Seq (terms.Emit s) terms.Pause)
  kernel_of_form traps x at (Await delay Missing) = awaiting_delay at delay
  -- await d; q
  kernel_of_form traps x at (Await delay (Written q)) = terms.Seq (awaiting_delay at delay) (kernel traps x q)
  -- await [e1 or .. or ek]; present case e1 do q1 .. case ek do qk end
  kernel_of_form traps x at (AwaitCase cases) =
      terms.Seq (awaiting at (any_event cases)) (chosen traps x cases terms.Nothing)
  kernel_of_form traps x at (Present e p q) =
      terms.Present (expression e) (part traps x p) (part traps (x + new_in_part p) q)
  -- present e1 then q1 else (the rest) end, the last else being r
  kernel_of_form traps x at (PresentCase cases r) = chosen traps x cases (part traps (x + new_in_cases cases) r)
  kernel_of_form traps x at (Loop p) = terms.Loop at (kernel traps x p)
  kernel_of_form traps x at (LoopEach p delay) =
      looping_each at delay x (kernel (false ∷ traps) (x + new_by delay) p)
  -- await d; loop p each d
  kernel_of_form traps x at (Every delay p) =
      terms.Seq (awaiting_delay at delay)
      (looping_each at (later_delay delay) x (kernel (false ∷ traps) (x + new_by delay) p))
  -- n times p in one sequence
  kernel_of_form traps x at (Repeat count span p) = sequence (times count (kernel traps x p))
  kernel_of_form traps x at (Abort p delay Missing) =
      abortion at delay x (kernel (false ∷ traps) (x + new_by delay) p)
  kernel_of_form traps x at (Abort p delay (Written q)) =
      handled (aborting_handled at delay x (kernel (false ∷ false ∷ traps) (x + new_by delay) p))
      (kernel (false ∷ traps) (x + new_by delay + new_in p) q)
  -- abort p when [e1 or .. or ek] do present case e1 do q1 .. case ek do qk end end
  kernel_of_form traps x at (AbortCase p cases) =
      handled (aborting at (any_event cases) 3 (kernel (false ∷ false ∷ traps) x p))
      (chosen (false ∷ traps) (x + new_in p) cases terms.Nothing)
  kernel_of_form traps x at (WeakAbort p delay) = aborting_weakly at delay (kernel (false ∷ traps) x p)
  kernel_of_form traps x at (Suspend p delay) = suspension at delay (kernel traps x p)
  kernel_of_form traps x at (Trap p Missing) = terms.Trap (kernel (true ∷ traps) x p)
  -- trap N in trap T in p; exit N end; q end
  kernel_of_form traps x at (Trap p (Written q)) =
      handled (terms.Seq (kernel (true ∷ false ∷ traps) x p) (terms.Exit 3)) (kernel (false ∷ traps) (x + new_in p) q)
  kernel_of_form traps x at (Exit k) = terms.Exit (exit_code traps k)
  kernel_of_form traps x at (Signal signals p) = locals signals (kernel traps x p)
  kernel_of_form traps x at (Seq parts) = sequence (kernels traps x parts)
  kernel_of_form traps x at (Par parts) = parallel (kernels traps x parts)

  -- a part that may be left out
  pub part : Traps → ℕ → Part → Term
  part traps x Missing = terms.Nothing
  part traps x (Written p) = kernel traps x p

  pub kernels : Traps → ℕ → Stmts → List Term
  kernels traps x NoStmts = []
  kernels traps x (MoreStmts p others) = kernel traps x p ∷ kernels traps (x + new_in p) others

  -- the first case whose event is there, or else the term r
  pub chosen : Traps → ℕ → Cases → Term → Term
  chosen traps x NoCases r = r
  chosen traps x (MoreCases event body others) r =
      terms.Present (expression event) (part traps x body) (chosen traps (x + new_in_part body) others r)

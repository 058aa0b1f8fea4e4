-- Inner: that what a kernel program keeps is a fact, which holds in one way at most.
use mathlib.Core.Bool.{Bool-set}
use mathlib.Core.HLevel.{Π_prop, ×_prop, ×₃_prop, Unit-prop}
use native.Mathlib.Bridge.{le_prop}
use Rattle.std.specs.Prelude.{ℕ, ◌+◌, Bool}
use Rattle.base_types.specs.Relations.{Relation, Implies, Excludes}
use Rattle.est_kernel.specs.Terms.{Expression, Tick, Sig, Not, And, Or, Term, Nothing, Pause, Emit, Exit, Present}
use Rattle.est_kernel.specs.Terms.{Suspend, Seq, Loop, Par, Trap, Local, Awake}
use Rattle.est_kernel.specs.WellFormed.{ExitsStandInTraps, TestsVisible, SignalsFit, RelatesGiven, with_signal}

pub exits-prop : (n : ℕ) (p : Term) → IsProp (ExitsStandInTraps n p)
exits-prop n Nothing = Unit-prop
exits-prop n Pause = Unit-prop
exits-prop n (Emit s) = Unit-prop
exits-prop n (Exit k) = ×_prop le_prop le_prop
exits-prop n (Present e p q) = ×_prop (exits-prop n p) (exits-prop n q)
exits-prop n (Suspend e p) = exits-prop n p
exits-prop n (Seq p q) = ×_prop (exits-prop n p) (exits-prop n q)
exits-prop n (Loop at p) = exits-prop n p
exits-prop n (Par p q) = ×_prop (exits-prop n p) (exits-prop n q)
exits-prop n (Trap p) = exits-prop (n + 1) p
exits-prop n (Local s p) = exits-prop n p
exits-prop n (Awake e p) = exits-prop n p

tests-prop : (visible : ℕ → Bool) (e : Expression) → IsProp (TestsVisible visible e)
tests-prop visible Tick = Unit-prop
tests-prop visible (Sig s) = Bool-set _ _
tests-prop visible (Not a) = tests-prop visible a
tests-prop visible (And a b) = ×_prop (tests-prop visible a) (tests-prop visible b)
tests-prop visible (Or a b) = ×_prop (tests-prop visible a) (tests-prop visible b)

pub signals-prop : (inputs interface all : ℕ) (visible : ℕ → Bool) (p : Term)
    → IsProp (SignalsFit inputs interface all visible p)
signals-prop i j n v Nothing = Unit-prop
signals-prop i j n v Pause = Unit-prop
signals-prop i j n v (Emit s) = ×_prop (Bool-set _ _) le_prop
signals-prop i j n v (Exit k) = Unit-prop
signals-prop i j n v (Present e p q) =
    ×₃_prop (tests-prop v e) (signals-prop i j n v p) (signals-prop i j n v q)
signals-prop i j n v (Suspend e p) = ×_prop (tests-prop v e) (signals-prop i j n v p)
signals-prop i j n v (Seq p q) = ×_prop (signals-prop i j n v p) (signals-prop i j n v q)
signals-prop i j n v (Loop at p) = signals-prop i j n v p
signals-prop i j n v (Par p q) = ×_prop (signals-prop i j n v p) (signals-prop i j n v q)
signals-prop i j n v (Trap p) = signals-prop i j n v p
signals-prop i j n v (Local s p) = ×₃_prop le_prop le_prop (signals-prop i j n (with_signal s v) p)
signals-prop i j n v (Awake e p) = ×_prop (tests-prop v e) (signals-prop i j n v p)

pub relates-prop : (given : ℕ) (r : Relation) → IsProp (RelatesGiven given r)
relates-prop given (Implies a b) = ×_prop le_prop le_prop
relates-prop given (Excludes list) = Π_prop λ k. Π_prop λ d. Π_prop λ h. le_prop

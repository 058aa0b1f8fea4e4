-- To believe: what a kernel statement and a kernel program keep.
use Rattle.std.specs.Prelude.{ℕ, Bool, ◌+◌, ◌<◌, ◌≤◌, ◌==◌, ◌||◌, nat_lt, All, IsTrue, ⊤, length, take}
use Rattle.base_types.specs.declared.bounds.TheConstants.Limits.{KERNEL_NODES, KERNEL_HEIGHT, TRAPS, SIGNALS}
use Rattle.base_types.specs.Names.{is_name, is_same_name}
use Rattle.base_types.specs.Distinct.{all_differ}
use Rattle.est_kernel.specs.Terms.{Expression, Tick, Sig, Not, And, Or, Term, Nothing, Pause, Emit, Exit, Present}
use Rattle.est_kernel.specs.Terms.{Suspend, Seq, Loop, Par, Trap, Local, Awake}
use Rattle.base_types.specs.Relations.{Relation, Implies, Excludes}
use Rattle.est_kernel.specs.Sizes.{size_of, height_of, trap_depth}
use Rattle.est_kernel.specs.Plain.{Program, given_count, interface_count}

-- a statement of a program: nothing in it is what an instant has left
abbrev pub IsKernel : Term → Type 0
IsKernel Nothing = ⊤
IsKernel Pause = ⊤
IsKernel (Emit s) = ⊤
IsKernel (Exit k) = ⊤
IsKernel (Present e p q) = IsKernel p × IsKernel q
IsKernel (Suspend e p) = IsKernel p
IsKernel (Seq p q) = IsKernel p × IsKernel q
IsKernel (Loop at p) = IsKernel p
IsKernel (Par p q) = IsKernel p × IsKernel q
IsKernel (Trap p) = IsKernel p
IsKernel (Local s p) = IsKernel p
IsKernel (Awake e p) = ⊥

-- Each exit has a code of at least 2 and is in the trap that it leaves: code k leaves the trap that
-- is k - 2 traps further out, and n traps stand around the whole.
abbrev pub ExitsStandInTraps : ℕ → Term → Type 0
ExitsStandInTraps n Nothing = ⊤
ExitsStandInTraps n Pause = ⊤
ExitsStandInTraps n (Emit s) = ⊤
ExitsStandInTraps n (Exit k) = (2 ≤ k) × (k < n + 2)
ExitsStandInTraps n (Present e p q) = ExitsStandInTraps n p × ExitsStandInTraps n q
ExitsStandInTraps n (Suspend e p) = ExitsStandInTraps n p
ExitsStandInTraps n (Seq p q) = ExitsStandInTraps n p × ExitsStandInTraps n q
ExitsStandInTraps n (Loop at p) = ExitsStandInTraps n p
ExitsStandInTraps n (Par p q) = ExitsStandInTraps n p × ExitsStandInTraps n q
ExitsStandInTraps n (Trap p) = ExitsStandInTraps (n + 1) p
ExitsStandInTraps n (Local s p) = ExitsStandInTraps n p
ExitsStandInTraps n (Awake e p) = ExitsStandInTraps n p

-- a kernel statement keeps the limits on size, height and traps, and its exits are in their traps
pub record KeepsLimits (p : Term) : Type 0 where
  pub size : size_of p ≤ KERNEL_NODES
  pub height : height_of p ≤ KERNEL_HEIGHT
  pub traps : trap_depth p ≤ TRAPS
  pub exits : ExitsStandInTraps 0 p

-- each signal of a test is visible
abbrev pub TestsVisible : (ℕ → Bool) → Expression → Type 0
TestsVisible visible Tick = ⊤
TestsVisible visible (Sig s) = IsTrue (visible s)
TestsVisible visible (Not a) = TestsVisible visible a
TestsVisible visible (And a b) = TestsVisible visible a × TestsVisible visible b
TestsVisible visible (Or a b) = TestsVisible visible a × TestsVisible visible b

-- one more visible signal
abbrev pub with_signal : ℕ → (ℕ → Bool) → ℕ → Bool
with_signal s visible = λ t. t == s || visible t

-- The signals of a statement, in a program that has this many inputs, interface signals and signals in
-- all. What is emitted and tested is visible: an interface signal, or one bound by a Local around it.
-- No input is emitted. A Local binds a signal of the program that is no interface signal.
module _ (inputs interface all : ℕ) where
  abbrev pub SignalsFit : (ℕ → Bool) → Term → Type 0
  SignalsFit visible Nothing = ⊤
  SignalsFit visible Pause = ⊤
  SignalsFit visible (Emit s) = IsTrue (visible s) × (inputs ≤ s)
  SignalsFit visible (Exit k) = ⊤
  SignalsFit visible (Present e p q) = TestsVisible visible e × SignalsFit visible p × SignalsFit visible q
  SignalsFit visible (Suspend e p) = TestsVisible visible e × SignalsFit visible p
  SignalsFit visible (Seq p q) = SignalsFit visible p × SignalsFit visible q
  SignalsFit visible (Loop at p) = SignalsFit visible p
  SignalsFit visible (Par p q) = SignalsFit visible p × SignalsFit visible q
  SignalsFit visible (Trap p) = SignalsFit visible p
  SignalsFit visible (Local s p) = (interface ≤ s) × (s < all) × SignalsFit (with_signal s visible) p
  SignalsFit visible (Awake e p) = TestsVisible visible e × SignalsFit visible p

-- the signals of a relation are given ones
abbrev pub RelatesGiven : ℕ → Relation → Type 0
RelatesGiven given (Implies a b) = (a < given) × (b < given)
RelatesGiven given (Excludes list) = All (λ s. s < given) list

-- what a kernel program keeps
pub record IsWellFormed (p : Program) : Type 0 where
  pub body : KeepsLimits p.body
  pub at_most : length p.signals ≤ SIGNALS
  pub interface : interface_count p ≤ length p.signals
  pub signals : SignalsFit p.inputs (interface_count p) (length p.signals) (λ s. nat_lt s (interface_count p)) p.body
  pub relations : All (RelatesGiven (given_count p)) p.relations

-- the names of a program and of its interface can be written, and no two signals of the interface have one
-- name
pub record HasNames (p : Program) : Type 0 where
  pub name : IsTrue (is_name p.name)
  pub interface : All (λ n. IsTrue (is_name n)) (take (interface_count p) p.signals)
  pub differ : IsTrue (all_differ is_same_name (take (interface_count p) p.signals))

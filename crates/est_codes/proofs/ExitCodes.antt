-- In a statement within the limits each exit has a code that a set can have.
use Rattle.std.proofs.Common.{ℕ, ◌+◌, ◌≤◌, arith}
use Rattle.est_kernel.specs.Terms.{Term, Nothing, Pause, Emit, Exit, Present, Suspend, Seq, Loop, Par, Trap, Local, Awake}
use Rattle.est_kernel.specs.Sizes.{trap_depth}
use Rattle.est_kernel.specs.WellFormed.{ExitsStandInTraps, KeepsLimits}
use Rattle.est_codes.specs.Entries.{ExitsFit}

exits_below : (n : ℕ) (p : Term) → n + trap_depth p ≤ 60 → ExitsStandInTraps n p → ExitsFit p
exits_below n Nothing d h = tt
exits_below n Pause d h = tt
exits_below n (Emit s) d h = tt
exits_below n (Exit k) d h = omega (arith, h.1)
exits_below n (Present e p q) d h = (exits_below n p (omega arith) h.0, exits_below n q (omega arith) h.1)
exits_below n (Suspend e p) d h = exits_below n p d h
exits_below n (Seq p q) d h = (exits_below n p (omega arith) h.0, exits_below n q (omega arith) h.1)
exits_below n (Loop at p) d h = exits_below n p d h
exits_below n (Par p q) d h = (exits_below n p (omega arith) h.0, exits_below n q (omega arith) h.1)
exits_below n (Trap p) d h = exits_below (n + 1) p (omega arith) h
exits_below n (Local s p) d h = exits_below n p d h
exits_below n (Awake e p) d h = exits_below n p d h

pub exits_fit : (p : Term) → KeepsLimits p → ExitsFit p
exits_fit p h = exits_below 0 p (omega (arith, h.traps)) h.exits

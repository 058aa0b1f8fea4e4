-- To believe: the constructive step: what a term does in one instant, and what is left of it, after Berry, "The
-- Constructive Semantics of Pure Esterel". It rewrites terms: it has no state bits, copies, wires or
-- order. The environment knows every free signal of the term.
use Rattle.std.specs.Prelude.{ℕ, zero, suc, Bool, false, not, ◌==◌, ◌&&◌, ◌||◌, if◌then◌else◌, max, Option, Some, None}
use Rattle.est_kernel.specs.Terms.{Term, Nothing, Pause, Emit, Exit, Present, Suspend, Seq, Loop, Par, Trap, Local}
use Rattle.est_kernel.specs.Terms.{Awake}
use Rattle.est_kernel.specs.Statuses.{Status, Plus, Minus, Unknown, Environment, with_status, value}
use Rattle.est_kernel.specs.Potentials.{decided}

-- what was done in an instant: the emitted signals, the completion code, and the term that is left
pub record Step : Type 0 where
  pub emitted : ℕ → Bool
  pub code : ℕ
  pub residual : Term

-- no signal, this code, and nothing left
abbrev pub ended : ℕ → Step
ended c = record { emitted = λ t. false; code = c; residual = Nothing }

-- what is left of a term that completes with this code: nothing, unless it pauses
abbrev pub left_by : ℕ → Term → Term
left_by c r = if c == 1 then r else Nothing

-- a step whose part left the term r' after, so that the whole leaves f r'
abbrev pub leaving : (Term → Term) → Step → Step
leaving f a = record { emitted = a.emitted; code = a.code; residual = left_by a.code (f a.residual) }

-- the same, where the part has a step
abbrev pub leaves : (Term → Term) → Option Step → Option Step
leaves f None = None
leaves f (Some a) = Some (leaving f a)

-- the branch that a test's value names; there is no step where the value is unknown
abbrev pub chosen_step : Status → Option Step → Option Step → Option Step
chosen_step Plus a b = a
chosen_step Minus a b = b
chosen_step Unknown a b = None

-- both parts of a sequence: emitted by both; code and residual of the second
abbrev pub then_step : Step → Option Step → Option Step
then_step a None = None
then_step a (Some b) =
    Some (record { emitted = λ t. a.emitted t || b.emitted t; code = b.code; residual = b.residual })

-- a sequence with the second part q: with code 0 of the first part both parts, else as the first
-- part, whose residual stays before q
abbrev pub sequence_step : Term → Option Step → Option Step → Option Step
sequence_step q None b = None
sequence_step q (Some a) b = if a.code == 0 then then_step a b else Some (leaving (λ r. Seq r q) a)

-- a loop: as its body, whose residual stays before the whole loop; a body that terminates in the
-- instant in which it starts has no step
abbrev pub loop_step : Term → Option Step → Option Step
loop_step whole None = None
loop_step whole (Some a) = if a.code == 0 then None else Some (leaving (λ r. Seq r whole) a)

-- a parallel: emitted by both branches; the greater code; both residuals side by side
abbrev pub parallel_step : Option Step → Option Step → Option Step
parallel_step None b = None
parallel_step (Some a) None = None
parallel_step (Some a) (Some b) =
    Some (record {
      emitted = λ t. a.emitted t || b.emitted t;
      code = max a.code b.code;
      residual = left_by (max a.code b.code) (Par a.residual b.residual);
    })

-- the trap rule on a code: 0 and 2 become 0, 1 stays, k above 2 becomes k - 1
abbrev pub trap_code : ℕ → ℕ
trap_code zero = 0
trap_code (suc zero) = 1
trap_code (suc (suc zero)) = 0
trap_code (suc (suc (suc k))) = suc (suc k)

-- a trap: as its body, with the trap rule on the code
abbrev pub trap_step : Option Step → Option Step
trap_step None = None
trap_step (Some a) =
    Some (record {
      emitted = a.emitted;
      code = trap_code a.code;
      residual = left_by (trap_code a.code) (Trap a.residual);
    })

-- a local signal whose body has a step: the outside does not see the signal, and it stays around what
-- is left
abbrev pub local_step : ℕ → Option Step → Option Step
local_step s None = None
local_step s (Some a) =
    Some (record {
      emitted = λ t. a.emitted t && not (t == s);
      code = a.code;
      residual = left_by a.code (Local s a.residual);
    })

-- what is said under a known status; an unknown one says nothing
abbrev pub where_known : {A : Type 0} → Status → Option A → Option A
where_known Plus a = a
where_known Minus a = a
where_known Unknown a = None

-- The step of a term, one row per form. A part without a step leaves the whole without one.
-- A local signal is present where its body must emit it and absent where its body cannot emit it, with
-- the signal unknown; where neither holds there is no step.
abbrev pub step : Term → Environment → Option Step
step Nothing E = Some (ended 0)
step Pause E = Some (ended 1)
step (Emit s) E = Some (record { emitted = λ t. t == s; code = 0; residual = Nothing })
step (Exit c) E = Some (ended c)
step (Present e p q) E = chosen_step (value e E) (step p E) (step q E)
step (Suspend e p) E = leaves (λ r. Awake e r) (step p E)
step (Seq p q) E = sequence_step q (step p E) (step q E)
step (Loop at p) E = loop_step (Loop at p) (step p E)
step (Par p q) E = parallel_step (step p E) (step q E)
step (Trap p) E = trap_step (step p E)
step (Local s p) E =
    where_known (decided p E s) (local_step s (step p (with_status E s (decided p E s))))
step (Awake e p) E =
    chosen_step (value e E)
    (Some (record { emitted = λ t. false; code = 1; residual = Awake e p }))
    (leaves (λ r. Awake e r) (step p E))

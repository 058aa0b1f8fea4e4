-- Exits that stand in their traps: no step completes further out, and what it leaves keeps them there. One
-- lemma per row over any steps, and then one induction.
use Rattle.std.proofs.Common.{◌≡◌, ℕ, zero, suc, ◌+◌, ◌<◌, ◌≤◌, ◌==◌, max, Option, Some, None, refl, sym, subst, arith}
use Rattle.std.proofs.lemmas.Bool.{cond_both}
use Rattle.est_kernel.specs.Terms.{Term, Nothing, Pause, Emit, Exit, Present, Suspend, Seq, Loop, Par, Trap, Local, Awake}
use Rattle.est_kernel.specs.Statuses.{Status, Plus, Minus, Unknown, Environment, with_status, value}
use Rattle.est_kernel.specs.Potentials.{decided}
use Rattle.est_kernel.specs.Steps.{Step, step, ended, left_by, leaving, leaves, chosen_step, then_step, sequence_step, loop_step, parallel_step, trap_code}
use Rattle.est_kernel.specs.Steps.{trap_step, local_step, where_known}
use Rattle.est_kernel.specs.Sizes.{trap_depth}
use Rattle.est_kernel.specs.WellFormed.{ExitsStandInTraps}
use Rattle.est_kernel.specs.Laws.{StepKeepsExits}

-- a step, where there is one, has a code below the limit and leaves exits in traps, at most so deep
record Fits (n most : ℕ) (x : Step) : Type 0 where
  code : x.code < n + 2
  residual : ExitsStandInTraps n x.residual
  depth : trap_depth x.residual ≤ most

abbrev AllFit : ℕ → ℕ → Option Step → Type 0
AllFit n d None = Unit {0}
AllFit n d (Some x) = Fits n d x

left_exits : (n c : ℕ) (r : Term) → ExitsStandInTraps n r → ExitsStandInTraps n (left_by c r)
left_exits n c r h = cond_both (c == 1) r Nothing (λ t. ExitsStandInTraps n t) (λ e. h) (λ e. tt)

left_depth : (c d : ℕ) (r : Term) → trap_depth r ≤ d → trap_depth (left_by c r) ≤ d
left_depth c d r h = cond_both (c == 1) r Nothing (λ t. trap_depth t ≤ d) (λ e. h) (λ e. omega arith)

-- a step with this code, which leaves this
left_fits : (n d : ℕ) (x : Step) (c : ℕ) (r : Term) → x.code ≡ c → x.residual ≡ left_by c r → c < n + 2 → ExitsStandInTraps n r → trap_depth r ≤ d → Fits n d x
left_fits n d x c r code residual below exits deep = record {
  code = subst (λ k. k < n + 2) (sym code) below;
  residual = subst (λ t. ExitsStandInTraps n t) (sym residual) (left_exits n c r exits);
  depth = subst (λ t. trap_depth t ≤ d) (sym residual) (left_depth c d r deep);
}

fits_ended : (n d c : ℕ) → c < n + 2 → Fits n d (ended c)
fits_ended n d c h = record { code = h; residual = tt; depth = omega arith }

deeper : (n c d : ℕ) (o : Option Step) → c ≤ d → AllFit n c o → AllFit n d o
deeper n c d None l h = tt
deeper n c d (Some x) l h = record { code = h.code; residual = h.residual; depth = omega (arith, h.depth) }

leaves_fit : (n c d : ℕ) (f : Term → Term) (o : Option Step) → ((r : Term) → ExitsStandInTraps n r → trap_depth r ≤ c →
    ExitsStandInTraps n (f r) × (trap_depth (f r) ≤ d)) → AllFit n c o → AllFit n d (leaves f o)
leaves_fit n c d f None g h = tt
leaves_fit n c d f (Some x) g h =
    let k = g x.residual h.residual h.depth in
    left_fits n d (leaving f x) x.code (f x.residual) refl refl h.code k.0 k.1

chosen_fit : (v : Status) (n d : ℕ) (a b : Option Step) → AllFit n d a → AllFit n d b → AllFit n d (chosen_step v a b)
chosen_fit Plus n d a b h g = h
chosen_fit Minus n d a b h g = g
chosen_fit Unknown n d a b h g = tt

then_fit : (n d : ℕ) (x : Step) (b : Option Step) → AllFit n d b → AllFit n d (then_step x b)
then_fit n d x None g = tt
then_fit n d x (Some y) g = record { code = g.code; residual = g.residual; depth = g.depth }

sequence_fit : (n c d : ℕ) (q : Term) (a b : Option Step) → ExitsStandInTraps n q → c ≤ d → trap_depth q ≤ d → AllFit n c a → AllFit n d b →
    AllFit n d (sequence_step q a b)
sequence_fit n c d q None b w l m h g = tt
sequence_fit n c d q (Some x) b w l m h g =
    cond_both (x.code == 0) (then_step x b) (Some (leaving (λ r. Seq r q) x)) (λ s. AllFit n d s)
    (λ e. then_fit n d x b g)
    (λ e. left_fits n d (leaving (λ r. Seq r q) x) x.code (Seq x.residual q) refl refl h.code (h.residual, w) (omega (arith, h.depth)))

loop_fit : (n d : ℕ) (whole : Term) (a : Option Step) → ExitsStandInTraps n whole → trap_depth whole ≤ d → AllFit n d a → AllFit n d (loop_step whole a)
loop_fit n d whole None w l h = tt
loop_fit n d whole (Some x) w l h =
    cond_both (x.code == 0) None (Some (leaving (λ r. Seq r whole) x)) (λ s. AllFit n d s)
    (λ e. tt)
    (λ e. left_fits n d (leaving (λ r. Seq r whole) x) x.code (Seq x.residual whole) refl refl h.code (h.residual, w) (omega (arith, h.depth)))

parallel_fit : (n c d m : ℕ) (a b : Option Step) → c ≤ m → d ≤ m → AllFit n c a → AllFit n d b → AllFit n m (parallel_step a b)
parallel_fit n c d m None b l k h g = tt
parallel_fit n c d m (Some x) None l k h g = tt
parallel_fit n c d m (Some x) (Some y) l k h g =
    left_fits n m _ (max x.code y.code) (Par x.residual y.residual) refl refl (omega (arith, h.code, g.code)) (h.residual, g.residual)
    (omega (arith, h.depth, g.depth))

trap_below : (n c : ℕ) → c < n + 1 + 2 → trap_code c < n + 2
trap_below n zero h = omega arith
trap_below n (suc zero) h = omega arith
trap_below n (suc (suc zero)) h = omega arith
trap_below n (suc (suc (suc k))) h = omega (arith, h)

trap_fit : (n c : ℕ) (a : Option Step) → AllFit (n + 1) c a → AllFit n (1 + c) (trap_step a)
trap_fit n c None h = tt
trap_fit n c (Some x) h =
    left_fits n (1 + c) _ (trap_code x.code) (Trap x.residual) refl refl (trap_below n x.code h.code) h.residual (omega (arith, h.depth))

local_fit : (v : Status) (s n d : ℕ) (a : Option Step) → AllFit n d a → AllFit n d (where_known v (local_step s a))
local_fit Plus s n d None h = tt
local_fit Plus s n d (Some x) h = left_fits n d _ x.code (Local s x.residual) refl refl h.code h.residual h.depth
local_fit Minus s n d None h = tt
local_fit Minus s n d (Some x) h = left_fits n d _ x.code (Local s x.residual) refl refl h.code h.residual h.depth
local_fit Unknown s n d a h = tt

all_fit : (n : ℕ) (p : Term) (E : Environment) → ExitsStandInTraps n p → AllFit n (trap_depth p) (step p E)
all_fit n Nothing E h = fits_ended n 0 0 (omega arith)
all_fit n Pause E h = fits_ended n 0 1 (omega arith)
all_fit n (Emit s) E h = record { code = omega arith; residual = tt; depth = omega arith }
all_fit n (Exit c) E h = fits_ended n 0 c h.1
all_fit n (Present e p q) E h =
    chosen_fit (value e E) n _ (step p E) (step q E)
    (deeper n (trap_depth p) _ (step p E) (omega arith) (all_fit n p E h.0))
    (deeper n (trap_depth q) _ (step q E) (omega arith) (all_fit n q E h.1))
all_fit n (Suspend e p) E h = leaves_fit n (trap_depth p) _ (λ r. Awake e r) (step p E) (λ r x l. (x, l)) (all_fit n p E h)
all_fit n (Seq p q) E h =
    sequence_fit n (trap_depth p) _ q (step p E) (step q E) h.1 (omega arith) (omega arith) (all_fit n p E h.0)
    (deeper n (trap_depth q) _ (step q E) (omega arith) (all_fit n q E h.1))
all_fit n (Loop at p) E h = loop_fit n _ (Loop at p) (step p E) h (omega arith) (all_fit n p E h)
all_fit n (Par p q) E h =
    parallel_fit n (trap_depth p) (trap_depth q) _ (step p E) (step q E) (omega arith) (omega arith) (all_fit n p E h.0) (all_fit n q E h.1)
all_fit n (Trap p) E h = trap_fit n (trap_depth p) (step p E) (all_fit (n + 1) p E h)
all_fit n (Local s p) E h =
    let v = decided p E s in
    local_fit v s n _ (step p (with_status E s v)) (all_fit n p (with_status E s v) h)
all_fit n (Awake e p) E h =
    chosen_fit (value e E) n _ _ (leaves (λ r. Awake e r) (step p E))
    (record { code = omega arith; residual = h; depth = omega arith })
    (leaves_fit n (trap_depth p) _ (λ r. Awake e r) (step p E) (λ r x l. (x, l)) (all_fit n p E h))

pub step_keeps_exits_lem : StepKeepsExits
step_keeps_exits_lem n p E x h e =
    let f : Fits n (trap_depth p) x = subst (λ o. AllFit n (trap_depth p) o) e (all_fit n p E h) in
    record { code = f.code; residual = f.residual; depth = f.depth }

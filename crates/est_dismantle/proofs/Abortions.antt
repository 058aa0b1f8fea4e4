-- Inner: an abortion by any delay is made in two steps.
use Rattle.std.proofs.Common.{◌≡◌, ℕ, Bool, true, false, nat_le, cond, refl}
use Rattle.base_types.specs.declared.place.Span.{Span}
use Rattle.est_kernel.specs.Terms as terms
use Rattle.est_kernel.specs.Terms.{Term}
use Rattle.est_ast.specs.FlatTrees.{Delay, Plain, Immediate, Count}
use Rattle.est_dismantle.specs.Abortions.{aborting_later, tested_at_once}
use Rattle.est_dismantle.specs.Kernels.{expression, aborting, aborting_counted, abortion, aborting_handled, later_delay}

trap-if : (b : Bool) (p q : Term) → cond b (terms.Trap p) (terms.Trap q) ≡ terms.Trap (cond b p q)
trap-if true p q = refl
trap-if false p q = refl

pub abortion-steps : (at : Span) (d : Delay) (x : ℕ) (p : Term) → abortion at d x p ≡ tested_at_once d terms.Nothing (terms.Trap (aborting_later at d x 2 p))
abortion-steps at (Plain event) x p = refl
abortion-steps at (Immediate event) x p = refl
abortion-steps at (Count count span event) x p =
    trap-if (nat_le count 1) (aborting at (expression event) 2 p) (aborting_counted at count (expression event) x 2 p)

pub handled-steps : (at : Span) (d : Delay) (x : ℕ) (p : Term) → aborting_handled at d x p ≡ tested_at_once d (terms.Exit 2) (aborting_later at d x 3 p)
handled-steps at (Plain event) x p = refl
handled-steps at (Immediate event) x p = refl
handled-steps at (Count count span event) x p = refl

pub later-steps : (at : Span) (d : Delay) (x : ℕ) (p : Term) → abortion at (later_delay d) x p ≡ terms.Trap (aborting_later at d x 2 p)
later-steps at (Plain event) x p = refl
later-steps at (Immediate event) x p = refl
later-steps at (Count count span event) x p =
    trap-if (nat_le count 1) (aborting at (expression event) 2 p) (aborting_counted at count (expression event) x 2 p)

pub ruleset abortion_rows = (abortion-steps, handled-steps, later-steps)

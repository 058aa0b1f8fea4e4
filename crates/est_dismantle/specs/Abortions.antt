-- Inner: an abortion by any delay, in the two steps in which it is made.
use Rattle.std.specs.Prelude.{ℕ, nat_le, if◌then◌else◌}
use Rattle.base_types.specs.declared.place.Span.{Span}
use Rattle.est_kernel.specs.Terms as terms
use Rattle.est_kernel.specs.Terms.{Term, Expression}
use Rattle.est_ast.specs.FlatTrees.{Delay, Plain, Immediate, Count}
use Rattle.est_dismantle.specs.Kernels.{expression, aborting, aborting_counted}

-- what a delay tests
abbrev pub tested : Delay → Expression
tested (Plain event) = expression event
tested (Immediate event) = expression event
tested (Count count span event) = expression event

-- the body of an abortion in parallel with what watches for the delay, without a test at the start
abbrev pub aborting_later : Span → Delay → ℕ → ℕ → Term → Term
aborting_later at (Plain event) x code p = aborting at (expression event) code p
aborting_later at (Immediate event) x code p = aborting at (expression event) code p
aborting_later at (Count count span event) x code p =
    if nat_le count 1 then aborting at (expression event) code p
    else aborting_counted at count (expression event) x code p

-- the test at the start, of an immediate delay only: where the event is there, this, and else that
abbrev pub tested_at_once : Delay → Term → Term → Term
tested_at_once (Plain event) p q = q
tested_at_once (Immediate event) p q = terms.Present (expression event) p q
tested_at_once (Count count span event) p q = q

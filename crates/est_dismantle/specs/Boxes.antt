-- Inner: kernel statements in boxes.
-- (It is in specs/, short as it is, because a contract can cite definitions of specs/ alone.)
use Rattle.std.specs.declared.alloc.Global.{Global}
use Rattle.std.specs.declared.boxed.Box.{Box}
use Rattle.est_kernel.specs.declared.statements.Kernel.{Kernel}
use Rattle.est_kernel.specs.Plain.{term_of}
use Rattle.est_kernel.specs.Terms.{Term}

-- the term of a statement in a box
abbrev pub boxed_term : Box Kernel Global → Term
boxed_term p = term_of p.value

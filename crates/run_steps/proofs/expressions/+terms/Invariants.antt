use Rattle.std.proofs.Common.{◌+◌, map, take}
use Rattle.run_steps.specs.Plans.{Compiles}
use Rattle.run_steps.specs.Expressions.{parts_value}
use Rattle.run_steps.proofs.expressions.+terms.Given as goal

abbrev pub invariant-joined_term-loop-part : goal.invariant-joined_term-loop-part
invariant-joined_term-loop-part l =
    Compiles (parts_value (map (λ k. k.now) l.slots.keys) l.junction (take (l.part-index + 1) l.parts)) l.fn.plan l.all l.plan

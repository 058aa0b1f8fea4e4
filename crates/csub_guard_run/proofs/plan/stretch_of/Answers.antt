use Rattle.std.proofs.Common.{map, arith}
use Rattle.std.proofs.lemmas.List.{length-map}
use Rattle.csub_guard_run.proofs.Stretches.{low-each}
use Rattle.csub_guard_run.proofs.plan.stretch_of.Goals as goal

pub push_assigns-requires-clause-declared : goal.push_assigns-requires-clause-declared
push_assigns-requires-clause-declared c =
    low-each (map (λ k. k.now) c.args.slots.now.keys) c.args.assigns.now c.in_ok-plan.plan.named
    (omega (arith, c.in_ok-plan.ensures.named, c.len.ensures.len, length-map c.args.slots.now.keys (λ k. k.now))) c.requires

use Rattle.std.proofs.Common.{◌≡◌, ◌++◌, map, codes}
use Rattle.std.specs.Prelude.{replicate}
use Rattle.est_dismantle.proofs.signals.signals_with.Given as goal

abbrev pub invariant-loop : goal.invariant-loop
invariant-loop l = map (λ s. s.name) l.all.items ≡ map (λ s. s.name) l.fn.signals.items ++ replicate l.counter (codes "x")

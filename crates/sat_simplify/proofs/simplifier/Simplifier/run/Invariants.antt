use Rattle.std.proofs.Common.{◌≡◌}
use Rattle.sat_simplify.proofs.simplifier.Simplifier.run.Given as goal

abbrev pub invariant-rounds : goal.invariant-rounds
invariant-rounds l = l.kernel.assumed ≡ l.initial.kernel.assumed

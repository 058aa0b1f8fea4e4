use Rattle.std.proofs.Common.{◌≡◌}
use Rattle.sat_simplify.proofs.simplifier.Simplifier.subsume_all.Given as goal

abbrev pub invariant-fresh : goal.invariant-fresh
invariant-fresh l = l.kernel.assumed ≡ l.initial.kernel.assumed

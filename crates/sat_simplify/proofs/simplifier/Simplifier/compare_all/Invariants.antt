use Rattle.std.proofs.Common.{◌≡◌}
use Rattle.sat_simplify.proofs.simplifier.Simplifier.compare_all.Given as goal

abbrev pub invariant-others : goal.invariant-others
invariant-others l = l.kernel.assumed ≡ l.initial.kernel.assumed

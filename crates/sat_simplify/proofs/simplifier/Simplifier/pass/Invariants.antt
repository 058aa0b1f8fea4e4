use Rattle.std.proofs.Common.{◌≡◌}
use Rattle.sat_simplify.proofs.simplifier.Simplifier.pass.Given as goal

abbrev pub invariant-variables : goal.invariant-variables
invariant-variables l = l.kernel.assumed ≡ l.initial.kernel.assumed

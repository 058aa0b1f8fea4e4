use Rattle.std.proofs.Common.{◌≡◌}
use Rattle.sat_simplify.proofs.simplifier.Simplifier.round.Given as goal

abbrev pub invariant-bounds : goal.invariant-bounds
invariant-bounds l = l.kernel.assumed ≡ l.initial.kernel.assumed

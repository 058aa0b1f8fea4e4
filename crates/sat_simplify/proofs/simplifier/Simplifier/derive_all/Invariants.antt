use Rattle.std.proofs.Common.{◌≡◌}
use Rattle.sat_simplify.proofs.simplifier.Simplifier.derive_all.Given as goal

abbrev pub invariant-resolvents : goal.invariant-resolvents
invariant-resolvents l = l.kernel.assumed ≡ l.initial.kernel.assumed

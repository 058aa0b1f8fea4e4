use Rattle.std.proofs.Common.{◌≡◌}
use Rattle.sat_simplify.proofs.simplifier.Simplifier.drop_all.Given as goal

abbrev pub invariant-left : goal.invariant-left
invariant-left l = l.kernel.assumed ≡ l.initial.kernel.assumed

abbrev pub invariant-right : goal.invariant-right
invariant-right l = l.kernel.assumed ≡ l.initial.kernel.assumed

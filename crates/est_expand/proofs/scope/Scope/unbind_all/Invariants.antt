use Rattle.std.proofs.Common.{◌≡◌, drop}
use Rattle.est_expand.proofs.scope.Scope.unbind_all.Given as goal

abbrev pub invariant-loop-k : goal.invariant-loop-k
invariant-loop-k l = l.self ≡ drop l._k l.fn.self

use Rattle.std.proofs.Common.{◌≡◌, ◌∷◌}
use Rattle.est_parse.proofs.modules.before.Given as goal

abbrev pub invariant-loop-name : goal.invariant-loop-name
invariant-loop-name l = l.names.items ≡ l.fn.first ∷ l.yielded

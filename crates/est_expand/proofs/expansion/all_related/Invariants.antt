use Rattle.std.proofs.Common.{◌≡◌, map, take}
use Rattle.est_expand.specs.Flattening.{related}
use Rattle.est_expand.proofs.expansion.all_related.Given as goal

abbrev pub invariant-loop-name : goal.invariant-loop-name
invariant-loop-name l = map (λ s. s.0) l.found.items ≡ map (related l.scope) (take l.name-index l.names)

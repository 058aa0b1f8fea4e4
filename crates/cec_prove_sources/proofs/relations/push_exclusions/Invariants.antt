use Rattle.std.proofs.Common.{◌≡◌, ◌++◌, drop, map}
use Rattle.base_types.specs.declared.indices.SigId.{SigId}
use Rattle.sat_kernel.specs.Clauses.{plain_assumed}
use Rattle.cec_prove_sources.specs.RelationClauses.{exclusions}
use Rattle.cec_prove_sources.proofs.relations.push_exclusions.Given as goal

abbrev pub invariant-loop-k : goal.invariant-loop-k
invariant-loop-k l =
    plain_assumed l.list.items ++ exclusions (map (λ (s : SigId). s.0) (drop l.k l.signals))
    ≡ plain_assumed l.initial.list.items ++ exclusions (map (λ (s : SigId). s.0) l.signals)

use Rattle.std.proofs.Common.{◌≡◌, ◌++◌, drop, map}
use Rattle.std.specs.List.{flat_map}
use Rattle.base_types.specs.declared.indices.SigId.{SigId}
use Rattle.sat_kernel.specs.Clauses.{plain_assumed}
use Rattle.cec_prove_sources.specs.RelationClauses.{exclusion}
use Rattle.cec_prove_sources.proofs.relations.push_others.Given as goal

abbrev pub invariant-loop-other : goal.invariant-loop-other
invariant-loop-other l =
    plain_assumed l.list.items ++ flat_map (exclusion l.signal.0) (map (λ (s : SigId). s.0) (drop l.other-index l.others))
    ≡ plain_assumed l.initial.list.items ++ flat_map (exclusion l.signal.0) (map (λ (s : SigId). s.0) l.others)

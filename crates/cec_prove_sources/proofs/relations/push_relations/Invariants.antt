use Rattle.std.proofs.Common.{◌≡◌, ◌++◌, drop, map}
use Rattle.base_types.specs.Relations.{relation_of}
use Rattle.sat_kernel.specs.Clauses.{plain_assumed}
use Rattle.cec_prove_sources.specs.RelationClauses.{all_relation_clauses}
use Rattle.cec_prove_sources.proofs.relations.push_relations.Given as goal

abbrev pub invariant-loop-relation : goal.invariant-loop-relation
invariant-loop-relation l =
    plain_assumed l.list.items ++ all_relation_clauses (map relation_of (drop l.relation-index l.relations))
    ≡ plain_assumed l.initial.list.items ++ all_relation_clauses (map relation_of l.relations)

use Rattle.std.proofs.Common.{◌≡◌, drop, map}
use Rattle.base_types.specs.Relations.{relation_of}
use Rattle.std.specs.Cmp.Lexicographic.{pointwise}
use Rattle.cec_prove_sources.specs.Interfaces.{is_same_relation}
use Rattle.cec_prove_sources.proofs.interfaces.are_same_relations.Given as goal

abbrev pub invariant-loop-k : goal.invariant-loop-k
invariant-loop-k l =
    pointwise is_same_relation (map relation_of (drop l.k l.left)) (map relation_of (drop l.k l.right))
    ≡ pointwise is_same_relation (map relation_of l.left) (map relation_of l.right)

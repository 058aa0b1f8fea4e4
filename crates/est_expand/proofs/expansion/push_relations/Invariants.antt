use Rattle.std.proofs.Common.{◌≡◌, ◌++◌, map, take}
use Rattle.base_types.specs.Relations.{relation_of as input_relation}
use Rattle.est_ast.specs.Views.{relation_of}
use Rattle.est_expand.specs.Flattening.{relation_in}
use Rattle.est_expand.proofs.expansion.push_relations.Given as goal

abbrev pub invariant-loop-relation : goal.invariant-loop-relation
invariant-loop-relation l =
    map input_relation l.found.items
    ≡ map input_relation l.fn.found.items ++ map (relation_in l.scope) (map relation_of (take l.relation-index l.relations))

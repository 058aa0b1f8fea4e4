use Rattle.std.proofs.Common.{◌≡◌, map, drop}
use Rattle.std.specs.Prelude.{flat_map}
use Rattle.est_ast.specs.Views.{relation_of}
use Rattle.est_names.specs.NameFaults.{names_of_relation, not_given}
use Rattle.est_names.proofs.checks.check_relations.Given as goal

-- what is left has all faults
abbrev pub invariant-loop-relation : goal.invariant-loop-relation
invariant-loop-relation l =
    not_given l.given (flat_map names_of_relation (map relation_of l.relations))
    ≡ not_given l.given (flat_map names_of_relation (map relation_of (drop l.relation-index l.relations)))

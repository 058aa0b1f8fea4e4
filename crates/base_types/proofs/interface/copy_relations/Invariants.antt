use Rattle.std.proofs.Common.{◌≡◌, map, take}
use Rattle.base_types.specs.Relations.{relation_of}
use Rattle.base_types.proofs.interface.copy_relations.Given as goal

abbrev pub invariant-loop-relation : goal.invariant-loop-relation
invariant-loop-relation l = map relation_of l.copies.items ≡ map relation_of (take l.relation-index l.relations)

use Rattle.std.proofs.Common.{map, All}
use Rattle.base_types.specs.Relations.{relation_of}
use Rattle.net_relations.specs.Implications.{IsKept}
use Rattle.net_relations.proofs.implications.implications_of.Given as goal

abbrev pub invariant-loop-relation : goal.invariant-loop-relation
invariant-loop-relation l = All (IsKept (map relation_of l.relations) l.inputs) l.list.items

use Rattle.std.proofs.Common.{◌≡◌, drop, map}
use Rattle.base_types.specs.Relations.{relation_of}
use Rattle.cec_opt_texts.specs.Related.{named_relation, numbered_relations}
use Rattle.cec_opt_texts.proofs.Named.{after_these}
use Rattle.cec_opt_texts.proofs.relations.numbered_relations.Given as goal

-- the relations so far, before the others, are all
abbrev pub invariant-loop-relation : goal.invariant-loop-relation
invariant-loop-relation l =
    after_these (map relation_of l.found.items) (numbered_relations l.inputs (map named_relation (drop l.relation-index l.given)))
    ≡ numbered_relations l.inputs (map named_relation l.given)

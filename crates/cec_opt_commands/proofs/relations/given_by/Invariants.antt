use Rattle.std.specs.String.{string_bytes}
use Rattle.std.proofs.Common.{◌≡◌, ◌++◌, length, map}
use Rattle.cec_opt_texts.specs.Related.{named_relation}
use Rattle.cec_opt_commands.specs.Relations.{given_by}
use Rattle.cec_opt_commands.proofs.relations.given_by.Given as goal

abbrev pub invariant-loop-relation : goal.invariant-loop-relation
invariant-loop-relation l = map named_relation l.list.items ++ given_by (map string_bytes l.rest) ≡ given_by (map string_bytes l.words)

abbrev pub decreases-loop-relation : goal.decreases-loop-relation
decreases-loop-relation l = length l.rest

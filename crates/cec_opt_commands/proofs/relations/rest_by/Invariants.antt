use Rattle.std.specs.String.{string_bytes}
use Rattle.std.proofs.Common.{◌≡◌, length, map}
use Rattle.cec_opt_commands.specs.Relations.{rest_by}
use Rattle.cec_opt_commands.proofs.relations.rest_by.Given as goal

abbrev pub invariant-loop-more : goal.invariant-loop-more
invariant-loop-more l = rest_by (map string_bytes l.rest) ≡ rest_by (map string_bytes l.words)

abbrev pub decreases-loop-more : goal.decreases-loop-more
decreases-loop-more l = length l.rest

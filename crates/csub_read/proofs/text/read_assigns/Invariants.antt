use Rattle.std.proofs.Common.{◌≡◌, ◌++◌, length, map}
use Rattle.csub_read.specs.Reading.{makes_expr, assign_step, pair_of}
use Rattle.csub_read.specs.Tokens.{kind_in}
use Rattle.base_reader.specs.Readings.{mapped, loop}
use Rattle.csub_read.proofs.text.read_assigns.Given as goal

-- What was read so far, in front of the steps on the rest, is the whole.
abbrev pub invariant-assigns : goal.invariant-assigns
invariant-assigns l =
    mapped (λ others. map pair_of l.body.items ++ others) (loop (assign_step makes_expr l.room)) (map kind_in l.rest)
    ≡ loop (assign_step makes_expr l.room) (map kind_in l.tokens)

abbrev pub decreases-assigns : goal.decreases-assigns
decreases-assigns l = length l.rest

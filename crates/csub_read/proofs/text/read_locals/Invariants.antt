use Rattle.std.proofs.Common.{◌≡◌, ◌++◌, length, map}
use Rattle.csub_read.specs.Reading.{local_step}
use Rattle.csub_read.specs.Tokens.{kind_in}
use Rattle.base_reader.specs.Readings.{mapped, loop}
use Rattle.csub_read.proofs.text.read_locals.Given as goal

-- What was read so far, in front of the steps on the rest, is the whole.
abbrev pub invariant-locals : goal.invariant-locals
invariant-locals l = mapped (λ others. l.locals.items ++ others) (loop local_step) (map kind_in l.rest) ≡ loop local_step (map kind_in l.tokens)

abbrev pub decreases-locals : goal.decreases-locals
decreases-locals l = length l.rest

use Rattle.std.proofs.Common.{◌≡◌, ◌++◌, length, map}
use Rattle.csub_read.specs.Reading.{global_step}
use Rattle.csub_read.specs.Tokens.{kind_in}
use Rattle.base_reader.specs.Readings.{mapped, loop}
use Rattle.csub_read.proofs.text.read_globals.Given as goal

-- What was read so far, in front of the steps on the rest, is the whole.
abbrev pub invariant-globals : goal.invariant-globals
invariant-globals l = mapped (λ others. l.globals.items ++ others) (loop global_step) (map kind_in l.rest) ≡ loop global_step (map kind_in l.tokens)

abbrev pub decreases-globals : goal.decreases-globals
decreases-globals l = length l.rest

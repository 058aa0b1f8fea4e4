use Rattle.std.proofs.Common.{◌≡◌, ◌++◌, length, map}
use Rattle.base_reader.specs.Readings.{mapped, loop}
use Rattle.vlog_read.specs.Sources.{initial_of}
use Rattle.vlog_read.specs.Lexed.{kind_in}
use Rattle.vlog_read.specs.Reading.{initial_step}
use Rattle.vlog_read.proofs.text.read_initials.Given as goal

-- What was read so far, in front of the steps on the rest, is the whole.
abbrev pub invariant-initials : goal.invariant-initials
invariant-initials l =
    mapped (λ others. map initial_of l.initials.items ++ others) (loop initial_step) (map kind_in l.rest) ≡ loop initial_step (map kind_in l.tokens)

abbrev pub decreases-initials : goal.decreases-initials
decreases-initials l = length l.rest

use Rattle.std.proofs.Common.{◌≡◌, ◌++◌, length, map}
use Rattle.base_reader.specs.Readings.{mapped, loop}
use Rattle.vlog_read.specs.Sources.{next_of}
use Rattle.vlog_read.specs.Lexed.{kind_in}
use Rattle.vlog_read.specs.Reading.{next_step}
use Rattle.vlog_read.proofs.text.read_nexts.Given as goal

-- What was read so far, in front of the steps on the rest, is the whole.
abbrev pub invariant-nexts : goal.invariant-nexts
invariant-nexts l =
    mapped (λ others. map next_of l.nexts.items ++ others) (loop next_step) (map kind_in l.rest) ≡ loop next_step (map kind_in l.tokens)

abbrev pub decreases-nexts : goal.decreases-nexts
decreases-nexts l = length l.rest

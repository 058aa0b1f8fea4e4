use Rattle.std.proofs.Common.{◌≡◌, ◌++◌, length, map}
use Rattle.base_reader.specs.Readings.{mapped, loop}
use Rattle.vlog_read.specs.Sources.{declaration_of}
use Rattle.vlog_read.specs.Lexed.{kind_in}
use Rattle.vlog_read.specs.Reading.{declaration_step}
use Rattle.vlog_read.proofs.text.read_declarations.Given as goal

-- What was read so far, in front of the steps on the rest, is the whole.
abbrev pub invariant-declarations : goal.invariant-declarations
invariant-declarations l =
    mapped (λ others. map declaration_of l.declarations.items ++ others) (loop declaration_step) (map kind_in l.rest)
    ≡ loop declaration_step (map kind_in l.tokens)

abbrev pub decreases-declarations : goal.decreases-declarations
decreases-declarations l = length l.rest

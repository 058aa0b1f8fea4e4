use Rattle.std.proofs.Common.{◌≡◌, ◌++◌, length, map}
use Rattle.csub_text.specs.Views.{state_of}
use Rattle.csub_read.specs.Reading.{state_step}
use Rattle.csub_read.specs.Tokens.{kind_in}
use Rattle.base_reader.specs.Readings.{mapped, loop}
use Rattle.csub_read.proofs.text.read_states.Given as goal

-- What was read so far, in front of the steps on the rest, is the whole.
abbrev pub invariant-states : goal.invariant-states
invariant-states l = mapped (λ others. map state_of l.states.items ++ others) (loop state_step) (map kind_in l.rest) ≡ loop state_step (map kind_in l.tokens)

abbrev pub decreases-states : goal.decreases-states
decreases-states l = length l.rest

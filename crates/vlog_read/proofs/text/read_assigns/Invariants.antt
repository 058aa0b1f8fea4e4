use Rattle.std.proofs.Common.{◌≡◌, ◌++◌, length, map}
use Rattle.net_expressions.specs.Reading.{makes_expr}
use Rattle.base_reader.specs.Readings.{mapped, loop}
use Rattle.vlog_text.specs.Views.{assign_of}
use Rattle.vlog_read.specs.Lexed.{kind_in}
use Rattle.vlog_read.specs.Reading.{assign_step}
use Rattle.vlog_read.proofs.text.read_assigns.Given as goal

-- What was read so far, in front of the steps on the rest, is the whole.
abbrev pub invariant-assigns : goal.invariant-assigns
invariant-assigns l =
    mapped (λ others. map assign_of l.assigns.items ++ others) (loop (assign_step makes_expr l.room)) (map kind_in l.rest)
    ≡ loop (assign_step makes_expr l.room) (map kind_in l.tokens)

abbrev pub decreases-assigns : goal.decreases-assigns
decreases-assigns l = length l.rest

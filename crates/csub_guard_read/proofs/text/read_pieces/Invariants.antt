use Rattle.std.proofs.Common.{◌≡◌, ◌++◌, length, map}
use Rattle.csub_read.specs.Tokens.{kind_in}
use Rattle.csub_guard_read.specs.Reading.{builds_expr, piece_in, piece_step}
use Rattle.base_reader.specs.Readings.{mapped, loop}
use Rattle.csub_guard_read.proofs.text.read_pieces.Given as goal

-- What was read so far, in front of the steps on the rest, is the whole.
abbrev pub invariant-pieces : goal.invariant-pieces
invariant-pieces l =
    mapped (λ others. map piece_in l.body.items ++ others) (loop (piece_step builds_expr l.room)) (map kind_in l.rest)
    ≡ loop (piece_step builds_expr l.room) (map kind_in l.tokens)

abbrev pub decreases-pieces : goal.decreases-pieces
decreases-pieces l = length l.rest

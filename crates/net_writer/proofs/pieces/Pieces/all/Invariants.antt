use Rattle.std.proofs.Common.{◌≡◌, ◌++◌, length}
use Rattle.net_writer.proofs.pieces.Pieces.all.Given as goal

-- the pieces so far, and what is still to come, are the text
abbrev pub invariant-loop-text : goal.invariant-loop-text
invariant-loop-text g l = l.text.items ++ l.pieces ≡ l.initial.pieces

abbrev pub decreases-loop-text : goal.decreases-loop-text
decreases-loop-text g l = length l.pieces

use Rattle.std.proofs.Common.{length}
use Rattle.cec_text_io.proofs.Pieces.{PiecesSoFar, sinks}
use Rattle.cec_text_io.proofs.writing.write_in_pieces.Given as goal

-- the pieces so far were appended
abbrev pub invariant-loop-piece : goal.invariant-loop-piece
invariant-loop-piece g l =
    PiecesSoFar l.initial.pieces l.pieces
    (sinks (g.O.Sink.told l.initial.out) (g.O.Sink.told l.out) (g.O.Sink.faults l.initial.out) (g.O.Sink.faults l.out))

abbrev pub decreases-loop-piece : goal.decreases-loop-piece
decreases-loop-piece g l = length l.pieces

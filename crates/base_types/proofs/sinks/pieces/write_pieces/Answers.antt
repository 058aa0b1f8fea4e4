use Rattle.std.proofs.Common.{[]}
use Rattle.base_types.proofs.Gains.{stops-behind, pieces_at}
use Rattle.base_types.proofs.sinks.pieces.write_pieces.Goals as goal

pub returns-in-Err : goal.returns-in-Err
returns-in-Err g c =
    rw (← pieces_at (λ piece. piece.now) c.loop-piece.piece-index c.args.pieces.now (record { ref_ptr = (0, 0); now = [] }) c.loop-piece-test.true)
    (stops-behind _ _ _ _ _ _ _ _ _ c.loop-piece.invariant c.in-Err.ensures)

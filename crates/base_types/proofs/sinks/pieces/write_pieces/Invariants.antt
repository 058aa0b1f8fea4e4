use Rattle.std.proofs.Common.{take}
use Rattle.std.specs.List.{flat_map}
use Rattle.base_types.specs.Writing.{Appends}
use Rattle.base_types.proofs.sinks.pieces.write_pieces.Given as goal

-- the pieces so far were appended
abbrev pub invariant-loop-piece : goal.invariant-loop-piece
invariant-loop-piece g l = Appends (g.O.Sink.told l.initial.out) (g.O.Sink.told l.out) (g.O.Sink.faults l.initial.out) (g.O.Sink.faults l.out)
    (flat_map (λ piece. piece.now) (take l.piece-index l.pieces))

use Rattle.std.proofs.Common.{◌≡◌, ◌<◌, [], length, take, subst}
use Rattle.std.specs.Prelude.{MatchOption}
use Rattle.base_facts.proofs.Lists.{pieces-fall}
use Rattle.base_types.specs.Writing.{Appends, Stops}
use Rattle.cec_text_io.proofs.Pieces.{no_piece, one_piece_more, all_pieces, piece_stops, piece_lacks}
use Rattle.cec_text_io.proofs.writing.write_in_pieces.Goals as goal

pub loop-piece-init : goal.loop-piece-init
loop-piece-init g c = no_piece c.args.pieces.now (g.O.Sink.told c.args.out.now) (g.O.Sink.faults c.args.out.now)

pub returns-in-Err-write : goal.returns-in-Err-write
returns-in-Err-write g c =
    let old = c.loop-piece.pieces in
    let piece = subst (λ p. MatchOption p (old ≡ []) (λ piece. (0 < length piece.items) × (piece.items ≡ take 65536 old)))
    c.in-Ok-Some.field-0-is c.in-Ok-Some.ensures.piece in
    piece_stops 65536 _ old c.in-Ok-Some.piece.items _ _ _ _ _ _ c.loop-piece.invariant piece.1
    (subst (λ t. Stops (g.O.Sink.told c.loop-piece.out) (g.O.Sink.told c.write.new.self) (g.O.Sink.faults c.loop-piece.out)
    (g.O.Sink.faults c.write.new.self) t)
    c.deref.ensures.value c.in-Err-write.ensures)

pub loop-piece-smaller : goal.loop-piece-smaller
loop-piece-smaller g c =
    let old = c.loop-piece.pieces in
    let piece = subst (λ p. MatchOption p (old ≡ []) (λ piece. (0 < length piece.items) × (piece.items ≡ take 65536 old)))
    c.in-Ok-Some.field-0-is c.in-Ok-Some.ensures.piece in
    pieces-fall 65536 old c.in-Ok-Some.piece.items _ piece.0 piece.1 c.in-Ok-Some.ensures.rest

pub loop-piece-preserved : goal.loop-piece-preserved
loop-piece-preserved g c =
    let old = c.loop-piece.pieces in
    let piece = subst (λ p. MatchOption p (old ≡ []) (λ piece. (0 < length piece.items) × (piece.items ≡ take 65536 old)))
    c.in-Ok-Some.field-0-is c.in-Ok-Some.ensures.piece in
    one_piece_more 65536 _ old c.in-Ok-Some.piece.items _ _ _ _ _ _ _ c.loop-piece.invariant piece.1 c.in-Ok-Some.ensures.rest
    (subst (λ t. Appends (g.O.Sink.told c.loop-piece.out) (g.O.Sink.told c.write.new.self) (g.O.Sink.faults c.loop-piece.out)
    (g.O.Sink.faults c.write.new.self) t)
    c.deref.ensures.value c.in_default.ensures)

pub returns-in-Ok-None : goal.returns-in-Ok-None
returns-in-Ok-None g c =
    let old = c.loop-piece.pieces in
    let none = subst (λ p. MatchOption p (old ≡ []) (λ piece. (0 < length piece.items) × (piece.items ≡ take 65536 old)))
    c.in-Ok-None.field-0-is c.in-Ok-None.ensures.piece in
    all_pieces _ old _ c.loop-piece.invariant none

pub returns-in-Err : goal.returns-in-Err
returns-in-Err g c = piece_lacks _ _ _ c.loop-piece.invariant

use Rattle.std.proofs.Common.{◌≡◌, ◌<◌, ◌++◌, [], length, take, subst, ap, ◌∙◌}
use Rattle.std.specs.Prelude.{MatchOption}
use Rattle.base_facts.proofs.Lists.{pieces-fall}
use Rattle.net_ir.proofs.Exports.{pieces-join}
use Rattle.net_writer.proofs.pieces.Pieces.all.Goals as goal

pub loop-text-smaller : goal.loop-text-smaller
loop-text-smaller g c =
    let old = c.loop-text.pieces in
    let piece = subst (λ p. MatchOption p (old ≡ []) (λ piece. (0 < length piece.items) × (piece.items ≡ take 65536 old)))
    c.in-Some.is c.in_ok-piece.ensures.piece in
    pieces-fall 65536 old c.in-Some.piece.items c.next.new.self piece.0 piece.1 c.in_ok-piece.ensures.rest

pub loop-text-preserved : goal.loop-text-preserved
loop-text-preserved g c =
    let old = c.loop-text.pieces in
    let text = c.loop-text.text.items in
    let piece = subst (λ p. MatchOption p (old ≡ []) (λ piece. (0 < length piece.items) × (piece.items ≡ take 65536 old)))
    c.in-Some.is c.in_ok-piece.ensures.piece in
    pieces-join 65536 text old c.in-Some.piece.items c.next.new.self c.extend_from_slice.new.self.items _ c.loop-text.invariant
    piece.1 c.in_ok-piece.ensures.rest (c.in_ok-extend_from_slice.ensures.items ∙ ap (λ l. text ++ l) c.deref.ensures.value)

use Rattle.std.proofs.Common.{◌++◌, take, drop, sym, ap, ◌∙◌, arith}
use Rattle.net_ir.proofs.Exports.{piece-front, piece-back, piece-none, piece-some}
use Rattle.net_writer.proofs.pieces.Pieces.next.Goals as goal

pub returns-then-is_empty-clause-piece : goal.returns-then-is_empty-clause-piece
returns-then-is_empty-clause-piece g c =
    let text = c.in_ok-text.text in
    let whole = c.in_ok-text.ensures.text ∙ ap (λ l. l ++ g.P.Places.text_from c.self.inside.places c.self.inside.place) c.deref.ensures.value in
    sym c.self.view_is ∙ piece-none 65536 text.len text.items _ _ (omega arith) c.if-is_empty.ensures text.ok.0 whole c.in_ok-text.ensures.full

pub returns-clause-piece : goal.returns-clause-piece
returns-clause-piece g c =
    let text = c.in_ok-text.text in
    let places = c.self.inside.places in
    let whole = c.in_ok-text.ensures.text ∙ ap (λ l. l ++ g.P.Places.text_from places c.self.inside.place) c.deref.ensures.value in
    let some = piece-some 65536 text.len text.items (omega arith) c.if-is_empty.ensures text.ok.0 in
    let piece = c.in_ok-self-inside.ensures.piece ∙ piece-front 65536 text.items _ _ whole c.in_ok-text.ensures.full ∙ ap (take 65536) c.self.view_is in
    (rw c.in_ok-self-inside.ensures.piece some, piece)

pub returns-clause-rest : goal.returns-clause-rest
returns-clause-rest g c =
    let text = c.in_ok-text.text in
    let places = c.self.inside.places in
    let whole = c.in_ok-text.ensures.text ∙ ap (λ l. l ++ g.P.Places.text_from places c.self.inside.place) c.deref.ensures.value in
    ap (λ l. l ++ g.P.Places.text_from places c.in_ok-text.place) c.in_ok-self-inside.ensures.rest
    ∙ piece-back 65536 text.items _ _ whole c.in_ok-text.ensures.full ∙ ap (drop 65536) c.self.view_is

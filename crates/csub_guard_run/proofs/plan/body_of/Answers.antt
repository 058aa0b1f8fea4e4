use Rattle.std.proofs.Common.{◌∙◌, map, take, arith}
use Rattle.std.proofs.lemmas.List.{length-map, length-take}
use Rattle.csub_guard.specs.Views.{piece_of}
use Rattle.csub_guard_run.proofs.Bodies.{body-none, body-few, piece-at, pieces-more}
use Rattle.csub_guard_run.proofs.plan.body_of.Goals as goal

pub loop-piece-init : goal.loop-piece-init
loop-piece-init c = body-none (map (λ k. k.now) c.args.slots.now.keys) _ c.new.ensures.items c.in_ok-no_steps.ensures

pub push_piece-requires-clause-fits : goal.push_piece-requires-clause-fits
push_piece-requires-clause-fits c =
    piece-at (map (λ k. k.now) c.args.slots.now.keys) c.args.pieces.now c.loop-piece.piece-index c.piece-item.result (omega arith) c.piece-item.is
    c.requires.fits

pub push_piece-requires-clause-named : goal.push_piece-requires-clause-named
push_piece-requires-clause-named c = c.loop-piece.invariant.last.named ∙ length-map c.args.slots.now.keys (λ k. k.now)

pub push_piece-requires-clause-few : goal.push_piece-requires-clause-few
push_piece-requires-clause-few c =
    let counted = body-few _ _ c.loop-piece.body c.loop-piece.invariant in
    let front = length-take c.loop-piece.piece-index c.args.pieces.now in
    omega (arith, counted, length-map (take c.loop-piece.piece-index c.args.pieces.now) piece_of, front, c.requires.few)

pub loop-piece-preserved : goal.loop-piece-preserved
loop-piece-preserved c =
    pieces-more (map (λ k. k.now) c.args.slots.now.keys) c.args.pieces.now c.loop-piece.piece-index c.piece-item.result _ (omega arith) c.piece-item.is
    (c.in_ok-push_piece.ensures _ c.loop-piece.invariant)

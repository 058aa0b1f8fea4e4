use Rattle.std.proofs.Common.{◌∙◌, map, sym}
use Rattle.std.proofs.lemmas.List.{map-append}
use Rattle.csub_read.specs.Tokens.{kind_in}
use Rattle.net_expressions.proofs.Exports.{shorter, list-ended}
use Rattle.csub_guard_read.specs.Reading.{builds_expr, piece_in, piece_step}
use Rattle.csub_guard_read.proofs.Makers.{pieces-mean}
use Rattle.csub_guard_read.proofs.PieceSteps.{piece-next, piece-none}
use Rattle.base_reader.proofs.Exports.{loop-started, loop-grown}
use Rattle.csub_guard_read.proofs.text.read_pieces.Goals as goal

pub pieces-init : goal.pieces-init
pieces-init c = rw (c.nothing_read-body.ensures.left, c.nothing_read-body.ensures.read)
    (loop-started (piece_step builds_expr c.args.room) (map kind_in c.args.tokens.now))

pub pieces-smaller : goal.pieces-smaller
pieces-smaller c =
    shorter kind_in c.in_ok-piece.behind.now c.pieces.rest.now
    (pieces-mean c.args.room (map kind_in c.pieces.rest.now) (piece_in c.in_ok-piece.piece) (map kind_in c.in_ok-piece.behind.now)
    (piece-next c.args.room (map kind_in c.pieces.rest.now) (piece_in c.in_ok-piece.piece) (map kind_in c.in_ok-piece.behind.now)
    (sym c.begins_piece.ensures ∙ c.pieces-test.true) c.in_ok-piece.ensures))

pub pieces-preserved : goal.pieces-preserved
pieces-preserved c =
    rw (c.in_ok-push.ensures.items, map-append)
    (loop-grown (piece_step builds_expr c.args.room) (pieces-mean c.args.room) (λ all. all) (map piece_in c.pieces.body.items)
    (map kind_in c.pieces.rest.now) (piece_in c.in_ok-piece.piece) (map kind_in c.in_ok-piece.behind.now)
    (piece-next c.args.room (map kind_in c.pieces.rest.now) (piece_in c.in_ok-piece.piece) (map kind_in c.in_ok-piece.behind.now)
    (sym c.begins_piece.ensures ∙ c.pieces-test.true) c.in_ok-piece.ensures)
    ∙ c.pieces.invariant)

pub returns : goal.returns
returns c =
    sym c.pieces.invariant
    ∙ list-ended (piece_step builds_expr c.args.room) (map piece_in c.pieces.body.items) (map kind_in c.pieces.rest.now) (map kind_in c.pieces.rest.now)
    (piece-none c.args.room (map kind_in c.pieces.rest.now) (sym c.begins_piece.ensures ∙ c.pieces-test.false))

use Rattle.std.proofs.Common.{map, sym, subst}
use Rattle.csub_read.specs.Reading.{FindsKinds}
use Rattle.csub_read.specs.Tokens.{kind_in}
use Rattle.csub_guard_read.specs.Reading.{piece_in}
use Rattle.csub_guard_read.proofs.PieceSteps.{piece-block}
use Rattle.csub_guard_read.proofs.text.read_piece.Goals as goal

pub returns-in-Some : goal.returns-in-Some
returns-in-Some c =
    subst (FindsKinds piece_in c.read_block.result)
    (sym (piece-block c.args.room (map kind_in c.args.tokens.now) (map kind_in c.in-Some.rest.now) c.in-Some.ensures)) c.read_block.ensures

use Rattle.std.proofs.Common.{subst}
use Rattle.est_ast.specs.Views.{expr_of}
use Rattle.base_expressions.specs.Reading.{neg, inside}
use Rattle.base_reader.specs.Found.{Finds}
use Rattle.est_parse.specs.Reading.{tests}
use Rattle.est_parse.proofs.Lists.{finds-plain, event-part}
use Rattle.est_parse.proofs.expressions.read_event.Goals as goal

pub returns : goal.returns
returns c =
    subst (Finds expr_of c.read_part.result) (event-part c.args.room c.args.tokens.now c.in_ok-check_event.ensures)
    (finds-plain expr_of c.read_part.result (neg tests c.args.room (inside tests c.args.room)) c.args.tokens.now c.read_part.ensures)

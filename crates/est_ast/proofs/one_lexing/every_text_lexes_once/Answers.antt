use Rattle.est_ast.proofs.EveryText.{some_lexing}
use Rattle.est_ast.proofs.OneLexing.{at_most_one}
use Rattle.est_ast.proofs.one_lexing.every_text_lexes_once.Goals as goal

pub returns : goal.returns
returns c = record { some = some_lexing; at_most_one = at_most_one }

use Rattle.est_ast.proofs.Exports.{line_front, block_front}
use Rattle.est_lex.proofs.front.comment.Goals as goal

pub returns-in-Some-clause-ok : goal.returns-in-Some-clause-ok
returns-in-Some-clause-ok c = block_front _ _ (c.in-Some.ensures)

pub returns-else-eq-clause-ok : goal.returns-else-eq-clause-ok
returns-else-eq-clause-ok c = line_front _ _ c.line_comment.ensures

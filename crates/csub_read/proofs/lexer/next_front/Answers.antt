use Rattle.std.proofs.Common.{sym, ◌∙◌, arith}
use Rattle.net_expressions.proofs.Exports.{differ-eqb}
use Rattle.csub_read.proofs.LexLaws.{word-front}
use Rattle.csub_read.proofs.lexer.next_front.Goals as goal

pub returns-then-begins_name-clause-is : goal.returns-then-begins_name-clause-is
returns-then-begins_name-clause-is c =
    c.word.ensures.is ∙ word-front c.args.text.now 0 (omega arith) (sym c.is_space.ensures ∙ c.if-is_space.false) (differ-eqb _ 47 c.if-first-eq47.false)
    (sym c.begins_name.ensures ∙ c.if-begins_name.true)

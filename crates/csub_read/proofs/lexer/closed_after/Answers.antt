use Rattle.std.proofs.Common.{sym, ◌∙◌, arith}
use Rattle.csub_read.proofs.LexLaws.{closed-more, closed-end}
use Rattle.csub_read.proofs.lexer.closed_after.Goals as goal

pub places-preserved : goal.places-preserved
places-preserved c = record {
  within = omega arith;
  same = c.places.invariant.same ∙ closed-more c.args.text.now c.places.at (omega arith) (sym c.closes.ensures ∙ c.if-closes.false);
}

pub returns-clause-is : goal.returns-clause-is
returns-clause-is c = sym (c.places.invariant.same ∙ closed-end c.args.text.now c.places.at (omega arith))

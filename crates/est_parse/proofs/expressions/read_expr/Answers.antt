use Rattle.est_ast.specs.Views.{expr_of}
use Rattle.est_parse.specs.Reading.{expr}
use Rattle.est_parse.proofs.Lists.{finds-plain}
use Rattle.est_parse.proofs.expressions.read_expr.Goals as goal

pub returns : goal.returns
returns c = finds-plain expr_of c.read_expr.result (expr c.args.room) c.args.tokens.now c.read_expr.ensures

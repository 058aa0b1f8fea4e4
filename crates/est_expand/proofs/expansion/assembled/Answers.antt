use Rattle.std.proofs.Common.{map}
use Rattle.est_ast.specs.FlatViews.{flat_stmt_of}
use Rattle.est_expand.proofs.expansion.assembled.Goals as goal

pub returns : goal.returns
returns c = λ main same i. record {
  name = same.name i;
  signals = map (λ s. s.name) c.args.met.signals.items;
  inputs = same.inputs i;
  both = same.both i;
  outputs = same.outputs i;
  relations = same.relations i;
  body = flat_stmt_of c.args.body;
}

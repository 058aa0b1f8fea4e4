use Rattle.base_reader.specs.StatementGrammar.{plain_of, IsStatement}
use Rattle.base_reader.proofs.StatementLaws.{statement-exact}
use Rattle.base_reader.proofs.Whole.{GivesExactly-by}
use Rattle.base_reader.proofs.statements.read.Goals as goal

pub returns : goal.returns
returns c =
    GivesExactly-by plain_of IsStatement c.args.room c.args.tokens.now _ _ c.read_whole.ensures (statement-exact c.args.room c.args.tokens.now)

use Rattle.est_ast.specs.Nesting.{IsProgram}
use Rattle.est_ast.specs.Views.{program_of}
use Rattle.base_reader.proofs.Exports.{GivesExactly-by}
use Rattle.est_parse.proofs.ModuleLaws.{program-exact}
use Rattle.est_parse.proofs.modules.read_exactly.Goals as goal

pub returns : goal.returns
returns c = GivesExactly-by program_of IsProgram c.args.room c.args.tokens.now _ _ c.read_whole.ensures (program-exact c.args.room c.args.tokens.now)

use Rattle.std.proofs.Common.{◌∙◌, None, Some, lit<}
use Rattle.std.proofs.lemmas.Str.Pattern.{split_once_first}
use Rattle.cec_opt_commands.proofs.GivenWords.{more-never, one-never}
use Rattle.cec_opt_commands.proofs.relations.never_of.Goals as goal

pub returns-in-None : goal.returns-in-None
returns-in-None c = one-never c.args.names.now (split_once_first 44 c.args.names.now None c.in-None.ensures.cases (lit< tt))

pub returns-in-Some : goal.returns-in-Some
returns-in-Some c =
    c.exclusion.ensures
    ∙ more-never c.args.names.now (split_once_first 44 c.args.names.now (Some c.in-Some.field-0) c.in-Some.ensures.cases (lit< tt)).0

use Rattle.std.proofs.Common.{◌∷◌, sym, ap, ◌∙◌, None, Some, lit<}
use Rattle.std.proofs.lemmas.Str.Pattern.{split_once_first}
use Rattle.cec_opt_commands.specs.Relations.{implication_of}
use Rattle.cec_opt_commands.proofs.GivenWords.{more-implication, one-name}
use Rattle.cec_opt_commands.proofs.relations.second_name.Goals as goal

pub returns-in-None : goal.returns-in-None
returns-in-None c =
    c.implication.ensures
    ∙ ap (λ l. implication_of (c.args.a.now ∷ l)) (sym (one-name c.args.b.now (split_once_first 44 c.args.b.now None c.in-None.ensures.cases (lit< tt))))

pub returns-in-Some : goal.returns-in-Some
returns-in-Some c = more-implication c.args.a.now c.args.b.now (split_once_first 44 c.args.b.now (Some c.in-Some.field-0) c.in-Some.ensures.cases (lit< tt)).0

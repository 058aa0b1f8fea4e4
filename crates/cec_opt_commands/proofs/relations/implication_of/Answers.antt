use Rattle.std.proofs.Common.{◌∷◌, sym, ap, ap₂, ◌∙◌, None, Some, lit<}
use Rattle.std.proofs.lemmas.Str.Pattern.{split_once_first}
use Rattle.cec_opt_texts.specs.Related.{names_between_commas}
use Rattle.cec_opt_commands.specs.Relations.{implication_of}
use Rattle.cec_opt_commands.proofs.GivenWords.{first-name, one-implication}
use Rattle.cec_opt_commands.proofs.relations.implication_of.Goals as goal

pub returns-in-None : goal.returns-in-None
returns-in-None c = one-implication c.args.names.now (split_once_first 44 c.args.names.now None c.in-None.ensures.cases (lit< tt))

pub returns-in-Some : goal.returns-in-Some
returns-in-Some c =
    let cut = split_once_first 44 c.args.names.now (Some (c.in-Some.a, c.in-Some.b)) c.in-Some.ensures.cases (lit< tt) in
    c.second_name.ensures ∙ ap₂ (λ a l. implication_of (a ∷ names_between_commas l)) cut.1 cut.2
    ∙ ap implication_of (sym (first-name c.args.names.now cut.0))

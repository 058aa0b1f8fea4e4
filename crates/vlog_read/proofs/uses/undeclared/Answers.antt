use Rattle.std.proofs.Common.{◌∙◌, ap, map, subst}
use Rattle.std.specs.Prelude.{find}
use Rattle.vlog_text.specs.Names.{use_found}
use Rattle.vlog_read.specs.NameTables.{AreKnown, wrong_in}
use Rattle.vlog_read.specs.NameTests.{use_of}
use Rattle.vlog_read.specs.Sources.{declaration_of, plain_source}
use Rattle.vlog_read.proofs.NameLaws.{wrong-known}
use Rattle.vlog_read.proofs.uses.undeclared.Goals as goal

pub returns : goal.returns
returns c =
    let s = plain_source c.args.source.now in
    let known = c.in_ok-known.known in
    c.first_wrong.ensures ∙ ap (λ l. use_found (find (wrong_in known) l)) (ap (map use_of) c.deref-2.ensures.value ∙ c.in_ok-uses.ensures)
    ∙ wrong-known s known (subst (λ l. AreKnown (map declaration_of l) known) c.deref.ensures.value c.in_ok-known.ensures)

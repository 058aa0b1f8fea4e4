use Rattle.std.proofs.Common.{◌∙◌, ap, not, map}
use Rattle.std.specs.Prelude.{find}
use Rattle.vlog_text.specs.Names.{declaration_found}
use Rattle.vlog_read.specs.NameTables.{driven_in}
use Rattle.vlog_read.specs.Sources.{declaration_of, plain_source}
use Rattle.vlog_read.proofs.NameLaws.{undriven-by}
use Rattle.vlog_read.proofs.drivers.undriven.Goals as goal

pub returns : goal.returns
returns c =
    let drivers = c.in_ok-drivers.drivers in
    c.first_undriven.ensures
    ∙ ap (λ l. declaration_found (find (λ d. not (driven_in drivers d.sort d.name)) (map declaration_of l))) c.deref.ensures.value
    ∙ undriven-by (plain_source c.args.source.now) drivers c.in_ok-drivers.ensures

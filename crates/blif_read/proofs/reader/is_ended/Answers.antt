use Rattle.std.proofs.Common.{[], sym, ap, ◌∙◌, Some, None}
use Rattle.std.specs.Prelude.{if◌then◌else◌}
use Rattle.blif_text.specs.Statements.{first_refused}
use Rattle.blif_read.specs.PlainStatements.{plain_statement}
use Rattle.blif_read.proofs.TakenLines.{last_of-last, first_refused-last}
use Rattle.blif_read.proofs.reader.is_ended.Goals as goal

pub returns-in-Some : goal.returns-in-Some
returns-in-Some c = λ after.
    let last = last_of-last plain_statement c.args.statements.now (Some c.in-Some.last.now) c.in-Some.ensures.value in
    ap (λ o. first_refused after o []) (sym last) ∙ first_refused-last after (plain_statement c.in-Some.last.now)
    ∙ ap (λ b. if b then None else Some after) (sym c.is_end.ensures)

use Rattle.std.proofs.Common.{map, ap, ◌∙◌}
use Rattle.blif_text.specs.Plain.{plain_row}
use Rattle.blif_read.proofs.Reversals.{map-reverse}
use Rattle.blif_read.proofs.draft.table.Goals as goal

pub returns-clause-rows : goal.returns-clause-rows
returns-clause-rows c =
    ap (map plain_row) c.reverse.ensures.items ∙ map-reverse plain_row c.args.rows.items

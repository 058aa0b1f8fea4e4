use Rattle.std.proofs.Common.{refl, map, ap, ◌∙◌}
use Rattle.std.specs.Prelude.{reverse}
use Rattle.blif_text.specs.Plain.{plain_table}
use Rattle.blif_read.proofs.Reversals.{reverse-map-push}
use Rattle.blif_read.proofs.draft.put.Goals as goal

pub returns-in_ok-push-in-Names : goal.returns-in_ok-push-in-Names
returns-in_ok-push-in-Names c =
    let tables = ap (λ ts. reverse (map plain_table ts)) c.in_ok-push-in-Names.ensures.items
    ∙ reverse-map-push plain_table c.args.draft.now.tables.items c.table.result in
    rw (
      c.in-Names.is,
      tables,
      c.table.ensures.inputs,
      c.table.ensures.output,
      c.table.ensures.rows,
      c.replace-rows.ensures.value,
      c.replace-rows.ensures.after,
      c.new.ensures.items,
    ) refl

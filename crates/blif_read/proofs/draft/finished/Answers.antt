use Rattle.std.proofs.Common.{refl, map, ap, ◌∙◌}
use Rattle.blif_text.specs.Plain.{plain_latch, plain_table}
use Rattle.blif_read.proofs.Reversals.{map-reverse}
use Rattle.blif_read.proofs.draft.finished.Goals as goal

pub returns : goal.returns
returns c =
    let latches = ap (map plain_latch) c.reverse-3.ensures.items ∙ map-reverse plain_latch c.args.draft.latches.items in
    let tables = ap (map plain_table) c.reverse-4.ensures.items ∙ map-reverse plain_table c.args.draft.tables.items in
    rw (c.reverse.ensures.items, c.reverse-2.ensures.items, latches, tables) refl

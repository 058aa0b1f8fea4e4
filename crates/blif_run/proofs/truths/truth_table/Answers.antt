use Rattle.std.proofs.Common.{sym, ◌∙◌, arith, map}
use Rattle.std.proofs.lemmas.List.FromFn.{map-range_with_len_more}
use Rattle.blif_text.specs.Plain.{plain_row}
use Rattle.blif_run.specs.Truths.{truth_at}
use Rattle.blif_run.proofs.truths.truth_table.Goals as goal

pub loop-place-preserved : goal.loop-place-preserved
loop-place-preserved c =
    let value = truth_at c.args.width (map plain_row c.args.rows.now) in
    c.in_ok-push.ensures.items
    ∙ rw (c.loop-place.invariant, c.some_row_fits.ensures) (sym (map-range_with_len_more value 0 c.loop-place.place c.loop-place.place (omega arith)))

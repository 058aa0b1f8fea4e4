use Rattle.std.proofs.Common.{◌≡◌, map, drop}
use Rattle.blif_text.specs.Plain.{plain_row}
use Rattle.blif_run.specs.Truths.{truth_at}
use Rattle.blif_run.proofs.truths.some_row_fits.Given as goal

abbrev pub invariant-loop-row : goal.invariant-loop-row
invariant-loop-row l = truth_at l.width (map plain_row (drop l.row-index l.rows)) l.place ≡ truth_at l.width (map plain_row l.rows) l.place

use Rattle.std.proofs.Common.{◌≡◌, map}
use Rattle.std.specs.List.{range_with_len}
use Rattle.blif_text.specs.Plain.{plain_row}
use Rattle.blif_run.specs.Truths.{truth_at}
use Rattle.blif_run.proofs.truths.truth_table.Given as goal

abbrev pub invariant-loop-place : goal.invariant-loop-place
invariant-loop-place l = l.truth.items ≡ map (truth_at l.width (map plain_row l.rows)) (range_with_len 0 l.place)

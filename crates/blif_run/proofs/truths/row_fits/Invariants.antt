use Rattle.std.proofs.Common.{◌≡◌, ◌-◌, drop}
use Rattle.blif_text.specs.Runs.{row_fits}
use Rattle.run_steps.specs.Plans.{digits}
use Rattle.blif_run.proofs.truths.row_fits.Given as goal

abbrev pub invariant-loop-cell : goal.invariant-loop-cell
invariant-loop-cell l = row_fits (drop l.cell-index l.cells) (digits (l.width - l.cell-index) l.rest) ≡ row_fits l.cells (digits l.width l.place)

use Rattle.std.proofs.Common.{◌+◌, ◌-◌, ◌/◌, sym, ap, ◌∙◌, arith, ◌&&◌, drop}
use Rattle.blif_text.specs.Runs.{row_fits}
use Rattle.blif_text.specs.declared.circuit.Cell.TheVariants.{Zero}
use Rattle.run_steps.specs.Plans.{digits}
use Rattle.blif_run.proofs.TruthTables.{row_fits-width, row_fits-step}
use Rattle.blif_run.proofs.truths.row_fits.Goals as goal

pub returns-then-cells-width : goal.returns-then-cells-width
returns-then-cells-width c = sym (row_fits-width c.args.cells.now c.args.width c.args.place c.if-cells-width.true)

pub returns-then-not-cell_fits : goal.returns-then-not-cell_fits
returns-then-not-cell_fits c =
    let i = c.loop-cell.cell-index in
    let more = row_fits (drop (i + 1) c.args.cells.now) (digits (c.args.width - (i + 1)) (c.loop-cell.rest / 2)) in
    let step = row_fits-step c.args.cells.now i c.args.width c.loop-cell.rest Zero (omega arith) c.if-cells-width.false in
    sym (sym c.loop-cell.invariant ∙ step ∙ ap (λ b. b && more) (sym c.cell_fits.ensures ∙ c.if-not-cell_fits.true))

pub loop-cell-preserved : goal.loop-cell-preserved
loop-cell-preserved c =
    let i = c.loop-cell.cell-index in
    let more = row_fits (drop (i + 1) c.args.cells.now) (digits (c.args.width - (i + 1)) (c.loop-cell.rest / 2)) in
    let step = row_fits-step c.args.cells.now i c.args.width c.loop-cell.rest Zero (omega arith) c.if-cells-width.false in
    sym (step ∙ ap (λ b. b && more) (sym c.cell_fits.ensures ∙ c.if-not-cell_fits.false)) ∙ c.loop-cell.invariant

use Rattle.std.proofs.Common.{◌≡◌, ◌+◌, ◌<◌, ◌≤◌, length, slice_index_or, sym, subst, arith, ap, ◌∙◌, IsTrue}
use Rattle.grc_formulas.specs.declared.table.Row.{Row}
use Rattle.grc_formulas.specs.Rows.{row_fits}
use Rattle.net_cycles.specs.Bases.{RowsAdded, bounds_of, row_op}
use Rattle.net_cycles.proofs.RowSteps.{rows-begun, rows-more}
use Rattle.net_cycles.proofs.rows.add_rows.Goals as goal

pub loop-row-init : goal.loop-row-init
loop-row-init c =
    let g = c.args.graph.now in
    let w = c.args.words.now in
    let rs = c.args.rows.now.items in
    let many : length rs ≡ c.len-row.result = omega (arith, c.len-row.ensures, c.args.rows.now.ok.0) in
    record {
      made = subst (λ k. RowsAdded g w c.args.base c.args.gates.now c.args.gates.now c.args.wires.now rs k) many
          (rows-begun g w c.args.base c.args.wires.now rs c.args.gates.now c.requires.ready);
    }

pub loop-row-preserved : goal.loop-row-preserved
loop-row-preserved c =
    let g = c.args.graph.now in
    let w = c.args.words.now in
    let b = c.args.base in
    let wires = c.args.wires.now in
    let rs = c.loop-row.rows.items in
    let k = c.loop-row.row in
    let row = c.index.result.now in
    let many : length c.args.rows.now.items ≡ c.len-row.result = omega (arith, c.len-row.ensures, c.args.rows.now.ok.0) in
    let low : k < c.args.to = omega arith in
    let from : length c.args.rows.now.items ≤ k = omega arith in
    let to = c.requires.to in
    let is : row ≡ slice_index_or w.rows.items k row = c.index.ensures in
    let fits = subst (λ (x : Row). IsTrue (row_fits (bounds_of b (length wires) k) x)) (sym is) (c.requires.fits k row from low) in
    let op = c.row_op-op.ensures ∙ ap (λ l. row_op b wires l row) c.as_slice.ensures.value in
    let made = rows-more g w b c.args.gates.now c.loop-row.gates c.push.new.self wires rs k row c.row_op-op.result c.in_ok-net.net c.loop-row.invariant.made
    (omega arith) is fits op c.in_ok-net.ensures.pushed c.in_ok-net.ensures.number c.in_ok-net.ensures.room in
    record { made = subst (λ l. RowsAdded g w b c.args.gates.now c.push.new.self wires l (k + 1)) (sym c.in_ok-push.ensures.items) made }

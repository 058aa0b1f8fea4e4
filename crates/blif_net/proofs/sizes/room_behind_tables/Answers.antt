use Rattle.std.proofs.Common.{map, sym, ap, subst, arith}
use Rattle.std.specs.List.{sum_by}
use Rattle.blif_text.specs.Circuits.{Table}
use Rattle.blif_text.specs.Plain.{plain_row, plain_table}
use Rattle.blif_net.specs.Rooms.{Leaves}
use Rattle.blif_net.specs.Sizes.{table_nets}
use Rattle.blif_net.proofs.Rows.{mapped-within}
use Rattle.blif_net.proofs.sizes.room_behind_tables.Goals as goal

pub returns-in_err-left : goal.returns-in_err-left
returns-in_err-left c =
    let within = mapped-within (λ (t : Table). table_nets t.rows) plain_table c.args.tables.now c.loop-table.table-index c.table-item.result (omega arith)
    c.table-item.is in
    let rows = ap (λ l. table_nets (map plain_row l)) c.deref.ensures.value in
    subst (λ r. Leaves c.args.room (sum_by (λ (t : Table). table_nets t.rows) (map plain_table c.args.tables.now)) r) (sym c.from_residual.ensures)
    (omega (arith, c.in_err-left.ensures, within, rows, c.loop-table.invariant))

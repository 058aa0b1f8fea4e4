use Rattle.std.proofs.Common.{map, sym, subst, arith}
use Rattle.std.specs.List.{sum_by}
use Rattle.blif_text.specs.Plain.{plain_row}
use Rattle.blif_net.specs.Rooms.{Leaves}
use Rattle.blif_net.specs.Sizes.{row_nets}
use Rattle.blif_net.proofs.Rows.{mapped-within}
use Rattle.blif_net.proofs.sizes.room_behind_rows.Goals as goal

pub returns-in_err-left : goal.returns-in_err-left
returns-in_err-left c =
    let within = mapped-within row_nets plain_row c.args.rows.now c.loop-row.row-index c.row-item.result (omega arith) c.row-item.is in
    subst (λ r. Leaves c.args.room (sum_by row_nets (map plain_row c.args.rows.now)) r) (sym c.from_residual.ensures)
    (omega (arith, c.in_err-left.ensures, within, c.loop-row.invariant))

use Rattle.std.proofs.Common.{◌≡◌, ◌+◌, map, take}
use Rattle.std.specs.List.{sum_by}
use Rattle.blif_text.specs.Plain.{plain_row}
use Rattle.blif_net.specs.Sizes.{row_nets}
use Rattle.blif_net.proofs.sizes.room_behind_rows.Given as goal

abbrev pub invariant-loop-row : goal.invariant-loop-row
invariant-loop-row l = l.left + sum_by row_nets (map plain_row (take l.row-index l.rows)) ≡ l.room

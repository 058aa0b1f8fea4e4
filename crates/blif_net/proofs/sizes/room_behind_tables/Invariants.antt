use Rattle.std.proofs.Common.{◌≡◌, ◌+◌, map, take}
use Rattle.std.specs.List.{sum_by}
use Rattle.blif_text.specs.Plain.{plain_table}
use Rattle.blif_net.specs.Sizes.{table_nets}
use Rattle.blif_net.proofs.sizes.room_behind_tables.Given as goal

abbrev pub invariant-loop-table : goal.invariant-loop-table
invariant-loop-table l = l.left + sum_by (λ t. table_nets t.rows) (map plain_table (take l.table-index l.tables)) ≡ l.room

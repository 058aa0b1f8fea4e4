use Rattle.std.proofs.Common.{false, None, take, map, length, ◌≤◌, ◌+◌}
use Rattle.std.specs.List.{list_any, sum_by}
use Rattle.blif_text.specs.Plain.{plain_row}
use Rattle.blif_text.specs.Runs.{row_fits}
use Rattle.blif_net.specs.Depths.{rows_depth}
use Rattle.blif_net.specs.Drawings.{Deepens, Draws, Joins, read_depths, read_values}
use Rattle.blif_net.specs.Sizes.{if_wide, row_gates, row_nets}
use Rattle.blif_net.proofs.tables.table_net.Given as goal

abbrev pub invariant-loop-row : goal.invariant-loop-row
invariant-loop-row l = record {
  draws : Draws l.first l.fn.gates.items l.gates.items l.any false
      (λ values. list_any (λ row. row_fits row (read_values l.reads values)) (map plain_row (take l.row-index l.rows)));
  deep : Deepens l.first l.fn.gates.items l.gates.items l.any
      (λ depths. rows_depth (read_depths l.reads depths) None (map plain_row (take l.row-index l.rows)));
  joins : Joins (length l.fn.gates.items + sum_by (λ cells. if_wide (length l.reads) cells (row_gates cells)) (map plain_row (take l.row-index l.rows)))
      (length l.gates.items) l.any (sum_by (λ cells. if_wide (length l.reads) cells 1) (map plain_row (take l.row-index l.rows)));
  few : length l.gates.items ≤ length l.fn.gates.items + sum_by row_nets (map plain_row (take l.row-index l.rows));
}

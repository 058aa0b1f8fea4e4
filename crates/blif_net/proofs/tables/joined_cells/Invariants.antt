use Rattle.std.proofs.Common.{true, take, length, None, ◌≤◌, ◌+◌, ◌*◌}
use Rattle.blif_text.specs.Runs.{row_fits}
use Rattle.std.specs.List.{sum_by}
use Rattle.blif_net.specs.Depths.{cells_depth}
use Rattle.blif_net.specs.Drawings.{Deepens, Draws, Joins, read_depths, read_values}
use Rattle.blif_net.specs.Sizes.{cell_parts}
use Rattle.blif_net.proofs.tables.joined_cells.Given as goal

abbrev pub invariant-loop-k : goal.invariant-loop-k
invariant-loop-k l = record {
  draws : Draws l.first l.fn.gates.items l.gates.items l.all true (λ values. row_fits (take l.k l.cells) (take l.k (read_values l.reads values)));
  deep : Deepens l.first l.fn.gates.items l.gates.items l.all (λ depths. cells_depth None (take l.k l.cells) (take l.k (read_depths l.reads depths)));
  joins : Joins (length l.fn.gates.items) (length l.gates.items) l.all (sum_by cell_parts (take l.k l.cells));
  few : length l.gates.items ≤ length l.fn.gates.items + 2 * l.k;
}

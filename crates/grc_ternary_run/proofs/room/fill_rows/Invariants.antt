use Rattle.std.proofs.Common.{◌≡◌, [], length, take}
use Rattle.grc_formulas.specs.Rows.{row_values}
use Rattle.grc_evaluate.specs.Evaluations.{surroundings_of}
use Rattle.grc_ternary_run.proofs.room.fill_rows.Given as goal

abbrev pub invariant-loop-k : goal.invariant-loop-k
invariant-loop-k l = record {
  len : length l.rows.items ≡ length l.fn.rows.items;
  front : take l.k l.rows.items ≡ row_values (surroundings_of l.start l.wires) [] (take l.k l.table);
}

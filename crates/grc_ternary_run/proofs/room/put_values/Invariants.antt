use Rattle.std.proofs.Common.{◌≡◌, ◌+◌, ◌++◌, length, map, take}
use Rattle.grc_formulas.specs.Rows.{source_value}
use Rattle.grc_evaluate.specs.Evaluations.{surroundings_of}
use Rattle.grc_ternary_run.proofs.room.put_values.Given as goal

abbrev pub invariant-loop-k : goal.invariant-loop-k
invariant-loop-k l = record {
  len : length l.values.items ≡ length l.fn.values.items;
  front : take (l.from + l.k) l.values.items
      ≡ take l.from l.fn.values.items ++ map (source_value (surroundings_of l.start l.wires) l.rows) (take l.k l.list);
}

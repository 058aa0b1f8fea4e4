use Rattle.net_cycles.specs.Bases.{RowsAdded}
use Rattle.net_cycles.proofs.rows.add_rows.Given as goal

abbrev pub invariant-loop-row : goal.invariant-loop-row
invariant-loop-row l = record { made : RowsAdded l.graph l.words l.base l.fn.gates l.gates l.wires l.rows.items l.row }

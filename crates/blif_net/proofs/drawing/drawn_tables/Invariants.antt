use Rattle.std.proofs.Common.{◌≡◌, ℕ, map, take, length, replicate, ◌≤◌, ◌+◌}
use Rattle.std.specs.List.{sum_by}
use Rattle.blif_text.specs.Plain.{plain_circuit, plain_table}
use Rattle.blif_net.specs.Depths.{gate_depths, greatest}
use Rattle.blif_net.specs.Tables.{Settles, drawn_step, slot_depths}
use Rattle.blif_net.proofs.DrawnSizes.{cost, gate_cost}
use Rattle.blif_net.proofs.SlotDepths.{DepthsTo, IsPlaced}
use Rattle.blif_net.proofs.drawing.drawn_tables.Given as goal

abbrev pub invariant-loop-table : goal.invariant-loop-table
invariant-loop-table l = record {
  settles : Settles l.first (length l.blif.tables.items) l.drawing.gates.items l.drawing.nets.items
      (map (drawn_step (map plain_table l.blif.tables.items) l.first (map (λ s. s.items) l.resolved.reads.items)) (take l.table-index l.order));
  count : length l.drawing.gates.items ≡ 1 + sum_by (gate_cost (plain_circuit l.blif)) (take l.table-index l.order);
  depths : (place : ℕ → ℕ)
      → IsPlaced l.first (length (map plain_table l.blif.tables.items)) (map (λ s. s.items) l.resolved.reads.items) l.order place
      → DepthsTo l.first (map plain_table l.blif.tables.items) (map (λ s. s.items) l.resolved.reads.items) place l.table-index
      (slot_depths l.drawing.nets.items l.drawing.gates.items (replicate l.first 0)) (greatest (gate_depths (replicate l.first 0) l.drawing.gates.items));
  few : length l.drawing.gates.items ≤ 1 + sum_by (cost (plain_circuit l.blif)) (take l.table-index l.order);
}

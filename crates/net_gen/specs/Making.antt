-- Inner: what the three loops over rows, wires and leaves make.
use Rattle.std.specs.Prelude.{◌≡◌, ℕ, ◌+◌, ◌<◌, ◌≤◌, true, Option, Some, List, [], ◌++◌, length, map, take}
use Rattle.std.specs.Prelude.{slice_index_or}
use Rattle.std.specs.List.{sum_by}
use Rattle.base_types.specs.declared.indices.NetId.{NetId}
use Rattle.base_types.specs.declared.indices.WireId.{WireId}
use Rattle.grc_graph.specs.declared.formulas.Formula.{Formula}
use Rattle.grc_graph.specs.declared.formulas.Formula.TheVariants as formulas
use Rattle.grc_graph.specs.declared.graph.Graph.{Graph}
use Rattle.grc_graph.specs.WireOrders.{wire_at}
use Rattle.grc_formulas.specs.declared.table.Words.{Words}
use Rattle.net_ir.specs.Gates.{carried}
use Rattle.net_gen.specs.Costs.{wire_cost, gates_at_most}
use Rattle.grc_graph.specs.GateCosts.{cost_of}
use Rattle.net_gen.specs.Drawings.{Drawing, Placed}
use Rattle.net_gen.specs.Growing.{Grew, spent}
use Rattle.net_gen.specs.Readiness.{RowsPlaced, WiresPlaced}
use Rattle.net_gen.specs.Senses.{Sense, Sound, Stands, form_sense}

-- the rows from one number up to another have their nets now
pub record RowsMade (g : Graph) (w : Words) (old new : Drawing) (from to : ℕ) : Type 0 where
  pub sound : Sound g w new
  pub stays : (n : ℕ) (m : Sense g) → Stands g old n m → Stands g new n m
  pub wires : new.wires ≡ old.wires
  pub carries : carried new.gates ≡ carried old.gates
  pub placed : RowsPlaced new to
  pub within : spent new + from ≤ spent old + to

-- the first wires of an order have their nets now, and the gates that carry them are in that order
pub record WiresMade (g : Graph) (w : Words) (old new : Drawing) (order : List WireId) (count : ℕ) : Type 0 where
  pub sound : Sound g w new
  pub stays : (n : ℕ) (m : Sense g) → Stands g old n m → Stands g new n m
  pub rows : new.rows ≡ old.rows
  pub carries : carried new.gates ≡ carried old.gates ++ map (λ v. v.0) (take count order)
  pub placed : (j : ℕ) → j < count → Placed new.wires (wire_at order j)
  pub within : spent new ≤ spent old + sum_by (wire_cost g) (take count order)

-- the nets of the next values of the first leaves
pub record NextMade (g : Graph) (w : Words) (old new : Drawing) (nets : List NetId) (count : ℕ) : Type 0 where
  pub grew : Grew g w old new
  pub many : length nets ≡ count
  pub says : (k : ℕ) (n : NetId) (f : Formula) → k < count
      → Stands g new (slice_index_or nets k n).0 (form_sense g (slice_index_or g.next.items k f))
  pub within : spent new ≤ spent old + sum_by cost_of (take count g.next.items)

-- a circuit that has the constants alone
pub record Begun (g : Graph) (w : Words) (d : Drawing) : Type 0 where
  pub sound : Sound g w d
  pub carries : carried d.gates ≡ []
  pub within : spent d ≡ 2 + length g.wires.items

-- A circuit that has the nets of all wires and rows, carries the wires in the order, and lists the nets of the next
-- values.
pub record CircuitMade (g : Graph) (w : Words) (order : List WireId) (d : Drawing) (nets : List NetId) : Type 0 where
  pub sound : Sound g w d
  pub wires : WiresPlaced d (length g.wires.items)
  pub rows : RowsPlaced d (length w.rows.items)
  pub carries : carried d.gates ≡ map (λ v. v.0) order
  pub many : length nets ≡ length g.next.items
  pub says : (k : ℕ) (n : NetId) (f : Formula) → k < length g.next.items
      → Stands g d (slice_index_or nets k n).0 (form_sense g (slice_index_or g.next.items k f))
  pub within : length d.gates ≤ gates_at_most g (length w.rows.items) order

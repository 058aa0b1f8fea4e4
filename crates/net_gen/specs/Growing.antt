-- Inner: how a circuit grows.
use Rattle.std.specs.Prelude.{◌≡◌, ℕ, ◌+◌, ◌<◌, ◌≤◌, ◌^◌, Option, Some, None, List, [], length}
use Rattle.std.specs.List.{sum_by}
use Rattle.base_types.specs.declared.indices.NetId.{NetId}
use Rattle.base_types.specs.declared.indices.WireId.{WireId}
use Rattle.grc_graph.specs.declared.graph.Graph.{Graph}
use Rattle.grc_formulas.specs.declared.table.Words.{Words}
use Rattle.net_ir.specs.declared.netlist.Op.{Op}
use Rattle.net_ir.specs.Gates.{carried}
use Rattle.net_gen.specs.Drawings.{Drawing, gates_for}
use Rattle.grc_graph.specs.GateCosts.{any_cost}
use Rattle.net_gen.specs.Senses.{Sense, Sound, Stands, OpStands, run_sense, any_sense}

-- the gates that there are, and one for each run of ends that is not made yet
abbrev pub spare : Option NetId → ℕ
spare None = 1
spare (Some n) = 0

abbrev pub spent : Drawing → ℕ
spent d = length d.gates + sum_by spare d.ends

-- the numbers of these gates, and of this many more, are small
abbrev pub HasRoom : Drawing → ℕ → Type 0
HasRoom d cost = d.first + spent d + cost < 2 ^ 32

-- Whatever stood before still stands, no wire and no row is noted, and no gate that carries a wire is new.
pub record Grew (g : Graph) (w : Words) (old new : Drawing) : Type 0 where
  pub sound : Sound g w new
  pub stays : (n : ℕ) (m : Sense g) → Stands g old n m → Stands g new n m
  pub wires : new.wires ≡ old.wires
  pub rows : new.rows ≡ old.rows
  pub carries : carried new.gates ≡ carried old.gates

-- a circuit grew, and an operator over its nets says this; a net of it costs at most this number of gates in all
pub record Lowers (g : Graph) (w : Words) (old new : Drawing) (op : Op) (m : Sense g) (cost : ℕ) : Type 0 where
  pub grew : Grew g w old new
  pub stands : OpStands g new op m
  pub within : spent new + gates_for op ≤ spent old + cost

-- a circuit grew by at most this number of gates, and a net says this
pub record Places (g : Graph) (w : Words) (old new : Drawing) (n : ℕ) (m : Sense g) (cost : ℕ) : Type 0 where
  pub grew : Grew g w old new
  pub stands : Stands g new n m
  pub within : spent new ≤ spent old + cost

-- a run of wires from a first one on has a net that says their or, or the run is empty
abbrev pub RunStands : (g : Graph) → Drawing → Option NetId → (first count : ℕ) → Type 0
RunStands g d None first count = count ≡ 0
RunStands g d (Some n) first count = (0 < count) × Stands g d n.0 (run_sense g first count)

-- the or of a list of wires as an operator, or there are none of them and nothing was made
abbrev pub Joins : (g : Graph) → Words → (old new : Drawing) → Option Op → List WireId → Type 0
Joins g w old new None list = (list ≡ []) × (new ≡ old)
Joins g w old new (Some op) list = (0 < length list) × Lowers g w old new op (any_sense g list) (any_cost (length list))

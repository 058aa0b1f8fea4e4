-- Inner: what the chains of ends say.
use Rattle.std.specs.Prelude.{◌≡◌, ℕ, ◌+◌, ◌-◌, ◌<◌, ◌≤◌, zero, suc, Bool, true, false, not, ◌==◌, ◌&&◌, nat_lt}
use Rattle.std.specs.Prelude.{List, length}
use Rattle.std.specs.Prelude.{slice_index, slice_index_or}
use Rattle.est_kernel.specs.Statuses.{Status, Minus, disjunction}
use Rattle.grc_graph.specs.declared.graph.Graph.{Graph}
use Rattle.grc_graph.specs.declared.wires.Wire.{Wire}
use Rattle.grc_graph.specs.declared.wires.Wire.TheVariants as wires
use Rattle.grc_formulas.specs.WordLaws.{first_end}
use Rattle.grc_formulas.specs.declared.table.Words.{Words}
use Rattle.grc_ternary_gates.specs.declared.gates.Gate.{Gate}
use Rattle.grc_ternary_gates.specs.Tables.{NodeSays, Shape, TableFits}

-- the or of so many statuses, from this number on
abbrev pub any_status : (ℕ → Status) → (first count : ℕ) → Status
any_status T first zero = Minus
any_status T first (suc count) = disjunction (any_status T first count) (T (first + count))

-- whether a wire is an end of an instance
abbrev pub is_end_of : ℕ → Wire → Bool
is_end_of i (wires.Go j) = false
is_end_of i (wires.End j c) = j.0 == i
is_end_of i (wires.Local j) = false
is_end_of i (wires.Out s) = false

-- whether a wire is an end, and not the first of its instance
abbrev pub continues_as : Words → ℕ → Wire → Bool
continues_as w v (wires.Go j) = false
continues_as w v (wires.End j c) = nat_lt 0 v && not (first_end w j.0 == v)
continues_as w v (wires.Local j) = false
continues_as w v (wires.Out s) = false

abbrev pub wire_number : Graph → ℕ → Wire
wire_number g v = slice_index_or g.wires.items v (wires.Out (record { 0 = 0 }))

abbrev pub continues : Graph → Words → ℕ → Bool
continues g w v = continues_as w v (wire_number g v)

-- the wires from the first end of an instance up to one are its ends
pub record IsRun (g : Graph) (w : Words) (i v : ℕ) : Type 0 where
  pub from : first_end w i ≤ v
  pub ends : (u : ℕ) → first_end w i ≤ u → u ≤ v → is_end_of i (wire_number g u) ≡ true

-- the shape of a system for chains alone, which read no sources
abbrev pub bare : Graph → (sources : ℕ) → Shape
bare g sources = record { wires = length g.wires.items; sources = sources }

-- For each of so many wires a node. Where the wires from the first end of an instance up to it are its ends, the node
-- says that one of these is true.
pub record ChainsSoFar (g : Graph) (w : Words) (table : List Gate) (chains : List ℕ) (count : ℕ) : Type 0 where
  pub each : length chains ≡ count
  pub fit : TableFits (bare g 0) table
  pub low : (v : ℕ) → v < count → slice_index chains v < length g.wires.items + length table
  pub says : (i v : ℕ) → v < count → IsRun g w i v
      → NodeSays (bare g 0) table (slice_index chains v) (λ S T. any_status T (first_end w i) (v + 1 - first_end w i))

abbrev pub AreChains : Graph → Words → List Gate → List ℕ → Type 0
AreChains g w table chains = ChainsSoFar g w table chains (length g.wires.items)

-- Inner: where the ends of an instance stand among the wires, and what is said of what an instant shows.
use Rattle.std.specs.Prelude.{◌≡◌, ℕ, ◌+◌, ◌<◌, ◌≤◌, ◌||◌, Bool, true, not, ◌==◌, List, length, drop, slice_index_or}
use Rattle.std.specs.List.{prefix_len}
use Rattle.base_types.specs.declared.indices.WireId.{WireId}
use Rattle.est_kernel.specs.Plain.{program_of}
use Rattle.grc_graph.specs.declared.graph.Graph.{Graph}
use Rattle.grc_graph.specs.declared.wires.Wire.{Wire}
use Rattle.grc_graph.specs.declared.wires.Wire.TheVariants as wires
use Rattle.grc_graph.specs.Layers.{Resumed, Started}
use Rattle.grc_graph.specs.Wires.{Out, End}
use Rattle.grc_formulas.specs.declared.table.Source.{Source}
use Rattle.grc_formulas.specs.declared.table.Row.{Row}
use Rattle.grc_formulas.specs.Building.{Says, Extends}
use Rattle.grc_formulas.specs.WordLaws.{late_bounds}

-- whether a wire is no end of an instance
abbrev pub is_no_end_of : ℕ → Wire → Bool
is_no_end_of i (wires.Go j) = true
is_no_end_of i (wires.End j c) = not (j.0 == i)
is_no_end_of i (wires.Local j) = true
is_no_end_of i (wires.Out s) = true

-- For each instance the first of its ends from this wire on; one after the last wire where there is none.
pub record EndsFound (g : Graph) (from : ℕ) (ends : List WireId) : Type 0 where
  pub each : length ends ≡ length g.instances.list.items
  pub found : (i : ℕ) (d : WireId) → i < length ends
      → (slice_index_or ends i d).0 ≡ from + prefix_len (is_no_end_of i) (drop from g.wires.items)

-- each of so many outgoing signals has a source that says that it is present
pub record OutputsSaid (g : Graph) (count : ℕ) (outputs : List Source) : Type 0 where
  pub each : length outputs ≡ count
  pub says : (k : ℕ) (d : Source) (rs : List Row) → k < count
      → Says g (late_bounds g 0) rs (slice_index_or outputs k d)
      (λ t. t.valuation (Out ((program_of g.program).inputs + k)))

-- a source says that the program pauses
pub record PausedMade (g : Graph) (old new : List Row) (paused : Source) : Type 0 where
  pub extends : Extends (late_bounds g 0) old new
  pub few : length new ≤ length old + 1
  pub says : Says g (late_bounds g 0) new paused (λ t.
      t.valuation (End 0 Resumed 1) || t.valuation (End 0 (Started 0) 1))

-- Contract: that a table of words is that of a graph.
use Rattle.std.specs.Prelude.{◌≡◌, ℕ, ◌+◌, ◌-◌, ◌<◌, ◌≤◌, zero, suc, Bool, false, ◌==◌, ◌&&◌, ◌||◌, nat_le, min, []}
use Rattle.std.specs.Prelude.{length, map, drop, slice_index_or, All, IsTrue}
use Rattle.std.specs.List.{prefix_len}
use Rattle.base_types.specs.Codes.{upto}
use Rattle.est_kernel.specs.Plain.{program_of, given_count, outgoing_count}
use Rattle.est_kernel.specs.Reactions.{is_given}
use Rattle.grc_graph.specs.declared.graph.Graph.{Graph}
use Rattle.grc_graph.specs.declared.wires.Wire.{Wire}
use Rattle.grc_graph.specs.declared.wires.Wire.TheVariants as wires
use Rattle.grc_graph.specs.GraphRuns.{shown}
use Rattle.grc_graph.specs.PlainGraphs.{instance_at, instances_of, names_of, plain_graph, wire_at}
use Rattle.grc_graph.specs.Readings.{state_holds_at, kept_at, held_at}
use Rattle.grc_graph.specs.Wires as plain
use Rattle.grc_formulas.specs.declared.table.Source.{Source}
use Rattle.grc_formulas.specs.declared.table.Source.TheVariants.{Const}
use Rattle.grc_formulas.specs.declared.table.Row.{Row}
use Rattle.grc_formulas.specs.declared.table.Words.{Words}
use Rattle.grc_formulas.specs.Occasions.{Occasion, FalseOffWires, state_in, surroundings}
use Rattle.grc_formulas.specs.Rows.{Bounds, source_value, row_values, source_fits, row_fits}

-- what an early row may read, and what every row may read, where so many rows stand before it
abbrev pub early_bounds : Graph → ℕ → Bounds
early_bounds g rows = record { leaves = length g.next.items; given = 0; wires = 0; rows = rows }

abbrev pub late_bounds : Graph → ℕ → Bounds
late_bounds g rows = record {
  leaves = length g.next.items;
  given = given_count (program_of g.program);
  wires = length g.wires.items;
  rows = rows;
}

-- each source and row reads what there is
pub record WordsFit (g : Graph) (w : Words) : Type 0 where
  pub early : w.early ≤ length w.rows.items
  pub early_rows : (k : ℕ) (d : Row) → k < w.early →
      IsTrue (row_fits (early_bounds g k) (slice_index_or w.rows.items k d))
  pub rows : (k : ℕ) (d : Row) → k < length w.rows.items →
      IsTrue (row_fits (late_bounds g k) (slice_index_or w.rows.items k d))
  pub selected : All (λ s. IsTrue (source_fits (early_bounds g w.early) s)) w.selected.items
  pub kept : All (λ s. IsTrue (source_fits (late_bounds g (length w.rows.items)) s)) w.kept.items
  pub held : All (λ s. IsTrue (source_fits (late_bounds g (length w.rows.items)) s)) w.held.items
  pub ends : All (λ v. v.0 ≤ length g.wires.items) w.ends.items
  pub outputs : All (λ s. IsTrue (source_fits (late_bounds g (length w.rows.items)) s)) w.outputs.items
  pub paused : IsTrue (source_fits (late_bounds g (length w.rows.items)) w.paused)

-- the value of a source in an occasion
abbrev pub value_of : (g : Graph) → Words → Occasion g → Source → Bool
value_of g w t s = source_value (surroundings g t) (row_values (surroundings g t) [] w.rows.items) s

-- The source of a statement. What is asked of a number after the last statement is read as of the last one, as in the
-- definition of `Selected`.
abbrev pub selected_source : Words → ℕ → Source
selected_source w n = slice_index_or w.selected.items (min n (length w.selected.items - 1)) (Const false)

-- whether a wire is an end of the instance with a code of at most k
abbrev pub is_end_upto : (i k : ℕ) → Wire → Bool
is_end_upto i k (wires.Go j) = false
is_end_upto i k (wires.End j c) = j.0 == i && nat_le c k
is_end_upto i k (wires.Local j) = false
is_end_upto i k (wires.Out s) = false

-- the first of the ends of an instance, and how many of them, side by side, have a code of at most k
abbrev pub first_end : Words → ℕ → ℕ
first_end w i = (slice_index_or w.ends.items i (record { 0 = 0 })).0

abbrev pub ends_upto : Graph → Words → (i k : ℕ) → ℕ
ends_upto g w i k = prefix_len (is_end_upto i k) (drop (first_end w i) g.wires.items)

-- whether one of so many values is true, from this number on
abbrev pub any_from : (ℕ → Bool) → (first count : ℕ) → Bool
any_from values first zero = false
any_from values first (suc count) = any_from values first count || values (first + count)

-- What the words of a graph's formulas, and what is shown of an instant, are on every occasion.
pub record AreWordsOf (g : Graph) (w : Words) : Type 0 where
  pub fit : WordsFit g w
  pub one_per_instance : (length w.kept.items ≡ length g.instances.list.items)
      × (length w.held.items ≡ length g.instances.list.items) × (length w.ends.items ≡ length g.instances.list.items)
  pub one_per_output : length w.outputs.items ≡ outgoing_count (program_of g.program)
  pub one_per_statement : 0 < length w.selected.items
  pub selected : (t : Occasion g) (n : ℕ) → FalseOffWires g t.valuation
      → value_of g w t (selected_source w n) ≡ state_holds_at (state_in g t) (plain_graph g).body n
  pub kept : (t : Occasion g) (i : ℕ) (d : Source) → FalseOffWires g t.valuation → i < length g.instances.list.items
      → value_of g w t (slice_index_or w.kept.items i d)
      ≡ kept_at ((plain_graph g).lasting t.valuation) (plain_graph g).body 0 (instance_at (instances_of g) i).path
      (instance_at (instances_of g) i).layer
  pub held : (t : Occasion g) (i : ℕ) (d : Source) → FalseOffWires g t.valuation → i < length g.instances.list.items
      → value_of g w t (slice_index_or w.held.items i d)
      ≡ held_at (is_given t.event) ((plain_graph g).lasting t.valuation) (plain_graph g).scope (plain_graph g).body 0
      (instance_at (instances_of g) i).path (instance_at (instances_of g) i).layer
  pub upto : (t : Occasion g) (i k : ℕ) → FalseOffWires g t.valuation → i < length g.instances.list.items
      → any_from (λ v. t.valuation (wire_at (names_of g) v)) (first_end w i) (ends_upto g w i k)
      ≡ upto (λ j. t.valuation (plain.End (instance_at (instances_of g) i).path
      (instance_at (instances_of g) i).layer j)) k
  pub outputs : (t : Occasion g) → FalseOffWires g t.valuation
      → map (value_of g w t) w.outputs.items ≡ (shown (plain_graph g) t.valuation).outputs
  pub paused : (t : Occasion g) → FalseOffWires g t.valuation
      → value_of g w t w.paused ≡ (shown (plain_graph g) t.valuation).paused

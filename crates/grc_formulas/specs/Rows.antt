-- Contract: the values of sources and rows. A row reads rows of lower numbers alone, so the leaves, the event and the
-- wires settle every row, one after another.
use Rattle.std.specs.Prelude.{ℕ, Bool, true, false, not, ◌&&◌, ◌||◌, nat_lt, List, [], ◌∷◌, ◌++◌, slice_index_or}
use Rattle.grc_formulas.specs.declared.table.Source.{Source}
use Rattle.grc_formulas.specs.declared.table.Source.TheVariants as sources
use Rattle.grc_formulas.specs.declared.table.Row.{Row}
use Rattle.grc_formulas.specs.declared.table.Row.TheVariants as rows

-- what sources read in an instant: one value for each leaf, the event, and the values of the wires by number
pub record Surroundings : Type 0 where
  pub leaves : List Bool
  pub event : List Bool
  pub wires : ℕ → Bool

-- the value of a source, where the rows so far have these values
abbrev pub source_value : Surroundings → List Bool → Source → Bool
source_value t values (sources.Const b) = b
source_value t values (sources.Leaf k) = slice_index_or t.leaves k false
source_value t values (sources.Input s) = slice_index_or t.event s.0 false
source_value t values (sources.Wire w) = t.wires w.0
source_value t values (sources.Row r) = slice_index_or values r false

abbrev pub row_value : Surroundings → List Bool → Row → Bool
row_value t values (rows.Not a) = not (source_value t values a)
row_value t values (rows.And a b) = source_value t values a && source_value t values b
row_value t values (rows.Or a b) = source_value t values a || source_value t values b

-- the values of all rows, where those before the first of these are given
abbrev pub row_values : Surroundings → List Bool → List Row → List Bool
row_values t values [] = values
row_values t values (r ∷ rs) = row_values t (values ++ row_value t values r ∷ []) rs

-- how many leaves, given signals, wires and rows a source may read from
pub record Bounds : Type 0 where
  pub leaves : ℕ
  pub given : ℕ
  pub wires : ℕ
  pub rows : ℕ

-- whether a source reads what there is
abbrev pub source_fits : Bounds → Source → Bool
source_fits b (sources.Const c) = true
source_fits b (sources.Leaf k) = nat_lt k b.leaves
source_fits b (sources.Input s) = nat_lt s.0 b.given
source_fits b (sources.Wire w) = nat_lt w.0 b.wires
source_fits b (sources.Row r) = nat_lt r b.rows

abbrev pub row_fits : Bounds → Row → Bool
row_fits b (rows.Not a) = source_fits b a
row_fits b (rows.And a c) = source_fits b a && source_fits b c
row_fits b (rows.Or a c) = source_fits b a && source_fits b c

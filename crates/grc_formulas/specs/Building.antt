-- Inner: a table of rows under construction, and what its sources say.
use Rattle.std.specs.Prelude.{◌≡◌, ℕ, ◌<◌, Bool, true, false, not, if◌then◌else◌, List, [], ◌∷◌, ◌++◌, length}
use Rattle.std.specs.Prelude.{slice_index_or, IsTrue}
use Rattle.grc_graph.specs.declared.graph.Graph.{Graph}
use Rattle.grc_formulas.specs.declared.table.Source.{Source}
use Rattle.grc_formulas.specs.declared.table.Source.TheVariants as sources
use Rattle.grc_formulas.specs.declared.table.Row.{Row}
use Rattle.grc_formulas.specs.declared.table.Row.TheVariants as rows
use Rattle.grc_formulas.specs.Occasions.{Occasion, FalseOffWires, surroundings}
use Rattle.grc_formulas.specs.Rows.{Bounds, source_value, row_values, source_fits, row_fits}

abbrev pub same_bool : Bool → Bool → Bool
same_bool true b = b
same_bool false b = not b

-- whether a source is this constant
abbrev pub is_constant : Bool → Source → Bool
is_constant b (sources.Const c) = same_bool b c
is_constant b (sources.Leaf k) = false
is_constant b (sources.Input s) = false
is_constant b (sources.Wire w) = false
is_constant b (sources.Row r) = false

-- one more row
abbrev pub new_source : List Row → Source
new_source rs = sources.Row (length rs)

-- the and of two sources, which takes a row where none of them settles it
abbrev pub with_both : List Row → Source → Source → List Row
with_both rs a b =
    if is_constant true a then rs else if is_constant true b then rs else if is_constant false b then rs
    else rs ++ rows.And a b ∷ []

abbrev pub both_source : List Row → Source → Source → Source
both_source rs a b =
    if is_constant true a then b else if is_constant true b then a else if is_constant false b then b else new_source rs

-- the or of two sources, the same
abbrev pub with_either : List Row → Source → Source → List Row
with_either rs a b =
    if is_constant false a then rs else if is_constant false b then rs else rs ++ rows.Or a b ∷ []

abbrev pub either_source : List Row → Source → Source → Source
either_source rs a b = if is_constant false a then b else if is_constant false b then a else new_source rs

-- so many rows may be read, and what else these bounds say
abbrev pub rows_below : Bounds → ℕ → Bounds
rows_below b n = record b { rows = n }

-- each row reads what there is, and rows of lower numbers
abbrev pub RowsFit : Bounds → List Row → Type 0
RowsFit b rs = (k : ℕ) (d : Row) → k < length rs → IsTrue (row_fits (rows_below b k) (slice_index_or rs k d))

-- a source reads what there is, and has this value on every occasion
pub record Says (g : Graph) (b : Bounds) (rs : List Row) (s : Source) (m : Occasion g → Bool) : Type 0 where
  pub fits : IsTrue (source_fits (rows_below b (length rs)) s)
  pub value : (t : Occasion g) → FalseOffWires g t.valuation
      → source_value (surroundings g t) (row_values (surroundings g t) [] rs) s ≡ m t

-- a table grew
pub record Extends (b : Bounds) (old new : List Row) : Type 0 where
  pub fit : RowsFit b new
  pub more : (extra : List Row) × (new ≡ old ++ extra)

-- Inner: nets for what a graph says in addition to the equations of its wires, over nets that carry the wires.
use Rattle.std.specs.Prelude.{◌≡◌, ℕ, ◌+◌, ◌<◌, ◌≤◌, ◌^◌, Bool, true, false, if◌then◌else◌, List, [], ◌∷◌, ◌++◌, length}
use Rattle.std.specs.Prelude.{map}
use Rattle.std.specs.Prelude.{slice_index_or, IsTrue}
use Rattle.std.specs.List.{list_any, range_with_len}
use Rattle.base_types.specs.declared.indices.NetId.{NetId}
use Rattle.base_types.specs.declared.indices.WireId.{WireId}
use Rattle.est_kernel.specs.Plain.{program_of, given_count}
use Rattle.grc_graph.specs.declared.formulas.Formula.{Formula}
use Rattle.grc_graph.specs.declared.graph.Graph.{Graph}
use Rattle.grc_graph.specs.GraphRuns.{formula_value}
use Rattle.grc_graph.specs.PlainGraphs.{formula_of, instances_of, names_of, plain_graph}
use Rattle.grc_formulas.specs.declared.table.Source.{Source}
use Rattle.grc_formulas.specs.declared.table.Source.TheVariants as sources
use Rattle.grc_formulas.specs.declared.table.Row.{Row}
use Rattle.grc_formulas.specs.declared.table.Row.TheVariants as rows
use Rattle.grc_formulas.specs.declared.table.Words.{Words}
use Rattle.grc_formulas.specs.Occasions.{Occasion, FalseOffWires, state_in, surroundings}
use Rattle.grc_formulas.specs.Rows.{Bounds, row_fits, row_values}
use Rattle.grc_formulas.specs.WordLaws.{AreWordsOf, any_from}
use Rattle.net_gen.specs.Senses.{first_of, start_of, wire_value}
use Rattle.net_ir.specs.declared.netlist.Op.{Op}
use Rattle.net_ir.specs.declared.netlist.Op.TheVariants as ops
use Rattle.net_ir.specs.Gates.{carried, value_in}
use Rattle.net_unroll.specs.declared.growing.Growing.{Growing}
use Rattle.net_unroll.specs.Copies.{AreNets, Grows, IsGrowing, IsNo, net_at, next_number, values_of}
use Rattle.net_cycles.specs.declared.base.Base.{Base}
use Rattle.net_cycles.specs.declared.base.Nets.{Nets}

-- ---- the nets that there are from the beginning

-- a net that is always true
pub record IsYes (g : Growing) (n : ℕ) : Type 0 where
  pub low : n < next_number g
  pub always : (front : List Bool) → length front ≡ g.first → value_in (values_of g front) n ≡ true

pub record IsBase (g : Graph) (b : Base) (d : Growing) : Type 0 where
  pub given : b.given ≡ given_count (program_of g.program)
  pub leaves : b.leaves ≡ length g.next.items
  pub first : d.first ≡ first_of g
  pub few : first_of g + 2 < 2 ^ 32
  pub no : IsNo d b.no.0
  pub yes : IsYes d b.yes.0
  pub growing : IsGrowing d
  pub silent : carried d.list.items ≡ []

-- gates grew by some
pub record GrowsOn (old new : Growing) : Type 0 where
  pub count : ℕ
  pub grows : Grows old new count

-- ---- sources and rows

abbrev pub source_net : Base → List NetId → List NetId → Source → NetId
source_net b wires rows (sources.Const c) = if c then b.yes else b.no
source_net b wires rows (sources.Leaf k) = record { 0 = b.given + 1 + k }
source_net b wires rows (sources.Input s) = record { 0 = s.0 }
source_net b wires rows (sources.Wire v) = net_at wires v.0
source_net b wires rows (sources.Row r) = net_at rows r

abbrev pub row_op : Base → List NetId → List NetId → Row → Op
row_op b wires rs (rows.Not a) = ops.Not (source_net b wires rs a)
row_op b wires rs (rows.And a c) = ops.And (source_net b wires rs a) (source_net b wires rs c)
row_op b wires rs (rows.Or a c) = ops.Or (source_net b wires rs a) (source_net b wires rs c)

-- what may be read, with these numbers of nets of wires and of rows
abbrev pub bounds_of : Base → (wires rows : ℕ) → Bounds
bounds_of b wires rows = record { leaves = b.leaves; given = b.given; wires = wires; rows = rows }

-- nets carry the wires in an occasion
pub record CarryWires (g : Graph) (wires : List NetId) (d : Growing) (t : Occasion g) : Type 0 where
  pub off : FalseOffWires g t.valuation
  pub says : (v : ℕ) → v < length wires → value_in (values_of d (start_of g t)) (net_at wires v).0 ≡ wire_value g t v

-- the values of all rows in an occasion
abbrev pub rows_in : (g : Graph) → Words → Occasion g → List Bool
rows_in g w t = row_values (surroundings g t) [] w.rows.items

-- the nets of the first rows, whatever the wires' values are
pub record AreRows (g : Graph) (w : Words) (wires rows : List NetId) (d : Growing) : Type 0 where
  pub nets : AreNets d rows
  pub says : (t : Occasion g) → CarryWires g wires d t → (r : ℕ) → r < length rows
      → value_in (values_of d (start_of g t)) (net_at rows r).0 ≡ slice_index_or (rows_in g w t) r false

-- rows can be added
pub record IsReady (g : Graph) (w : Words) (b : Base) (wires rows : List NetId) (d : Growing) : Type 0 where
  pub words : AreWordsOf g w
  pub base : IsBase g b d
  pub wire_nets : AreNets d wires
  pub row_nets : AreRows g w wires rows d

-- each row from one number up to another reads what there is
abbrev pub RowsFit : Base → Words → (wires from to : ℕ) → Type 0
RowsFit b w wires from to = (k : ℕ) (d : Row) → from ≤ k → k < to
    → IsTrue (row_fits (bounds_of b wires k) (slice_index_or w.rows.items k d))

-- rows up to this number have nets now
pub record RowsAdded (g : Graph) (w : Words) (b : Base) (old new : Growing) (wires rows : List NetId) (to : ℕ) :
    Type 0 where
  pub ready : IsReady g w b wires rows new
  pub many : length rows ≡ to
  pub grew : GrowsOn old new

-- the nets of a system's sources: the constants, the latch of the first instant, the given signals, and for each
-- statement whether it holds a selected pause
abbrev pub numbered_nets : ℕ → List NetId
numbered_nets count = map (λ n. let x : NetId = record { 0 = n } in x) (range_with_len 0 count)

abbrev pub sources_of : Base → Words → List NetId → List NetId
sources_of b w rows =
    b.no ∷ (b.yes ∷ (record { 0 = b.given } ∷ (numbered_nets b.given ++ map (source_net b [] rows) w.selected.items)))

-- ---- formulas

-- all rows have nets
pub record IsWhole (n : Nets) (d : Growing) : Type 0 where
  pub ready : IsReady n.graph.now n.words.now n.base n.wires.now n.rows.now d
  pub wires : length n.graph.now.wires.items ≤ length n.wires.now
  pub rows : length n.rows.now ≡ length n.words.now.rows.items

-- what a formula means in an occasion
abbrev pub form_value : (g : Graph) → Occasion g → Formula → Bool
form_value g t f =
    formula_value (plain_graph g) (state_in g t) t.event t.valuation (formula_of (instances_of g) (names_of g) f)

-- A net says what a formula means wherever nets carry the wires.
pub record Lowers (n : Nets) (old new : Growing) (f : Formula) (net : ℕ) : Type 0 where
  pub grew : GrowsOn old new
  pub low : net < next_number new
  pub says : (t : Occasion n.graph.now) → CarryWires n.graph.now n.wires.now old t
      → value_in (values_of new (start_of n.graph.now t)) net ≡ form_value n.graph.now t f

-- a net says that one of `count` wires is true, from this number on
pub record RunSays (n : Nets) (old new : Growing) (first count : ℕ) (net : ℕ) : Type 0 where
  pub grew : GrowsOn old new
  pub low : net < next_number new
  pub says : (t : Occasion n.graph.now) → CarryWires n.graph.now n.wires.now old t
      → value_in (values_of new (start_of n.graph.now t)) net ≡ any_from (wire_value n.graph.now t) first count

-- a net says that one of these wires is true
pub record AnySays (n : Nets) (old new : Growing) (list : List WireId) (net : ℕ) : Type 0 where
  pub grew : GrowsOn old new
  pub low : net < next_number new
  pub says : (t : Occasion n.graph.now) → CarryWires n.graph.now n.wires.now old t
      → value_in (values_of new (start_of n.graph.now t)) net ≡ list_any (λ v. wire_value n.graph.now t v.0) list

-- ---- the next state

-- the nets of the first next formulas
pub record NextMade (n : Nets) (old new : Growing) (nets : List NetId) (count : ℕ) : Type 0 where
  pub grew : GrowsOn old new
  pub many : length nets ≡ count
  pub low : AreNets new nets
  pub says : (t : Occasion n.graph.now) → CarryWires n.graph.now n.wires.now old t → (k : ℕ) (f : Formula) → k < count
      → value_in (values_of new (start_of n.graph.now t)) (net_at nets k).0
      ≡ form_value n.graph.now t (slice_index_or n.graph.now.next.items k f)

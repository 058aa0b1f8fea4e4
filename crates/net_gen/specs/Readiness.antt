-- Inner: that a circuit has the nets that a source, a row or a formula reads.
use Rattle.std.specs.Prelude.{◌≡◌, ℕ, ◌+◌, ◌<◌, ◌≤◌, false, Option, List, length, slice_index_or, All, ⊤}
use Rattle.base_types.specs.declared.indices.NetId.{NetId}
use Rattle.est_kernel.specs.Plain.{program_of, given_count}
use Rattle.grc_graph.specs.declared.formulas.Formula.{Formula}
use Rattle.grc_graph.specs.declared.formulas.Formula.TheVariants as formulas
use Rattle.grc_graph.specs.declared.graph.Graph.{Graph}
use Rattle.grc_formulas.specs.declared.table.Source.{Source}
use Rattle.grc_formulas.specs.declared.table.Source.TheVariants as sources
use Rattle.grc_formulas.specs.declared.table.Row.{Row}
use Rattle.grc_formulas.specs.declared.table.Row.TheVariants as rows
use Rattle.grc_formulas.specs.declared.table.Words.{Words}
use Rattle.grc_formulas.specs.WordLaws.{selected_source, first_end, ends_upto}
use Rattle.net_ir.specs.declared.netlist.Op.{Op}
use Rattle.net_ir.specs.declared.netlist.Op.TheVariants as ops
use Rattle.net_gen.specs.Drawings.{Drawing, Placed, net_at, constant_net}

abbrev pub SourceReady : Drawing → Source → Type 0
SourceReady d (sources.Const b) = ⊤
SourceReady d (sources.Leaf k) = d.given + 1 + k < d.first
SourceReady d (sources.Input s) = s.0 < d.given
SourceReady d (sources.Wire v) = Placed d.wires v.0
SourceReady d (sources.Row r) = Placed d.rows r

abbrev pub RowReady : Drawing → Row → Type 0
RowReady d (rows.Not a) = SourceReady d a
RowReady d (rows.And a b) = SourceReady d a × SourceReady d b
RowReady d (rows.Or a b) = SourceReady d a × SourceReady d b

-- the net of a source
abbrev pub source_net : Drawing → Source → NetId
source_net d (sources.Const b) = constant_net d b
source_net d (sources.Leaf k) = record { 0 = d.given + 1 + k }
source_net d (sources.Input s) = record { 0 = s.0 }
source_net d (sources.Wire v) = net_at d.wires v.0
source_net d (sources.Row r) = net_at d.rows r

-- a row as an operator
abbrev pub row_op : Drawing → Row → Op
row_op d (rows.Not a) = ops.Not (source_net d a)
row_op d (rows.And a b) = ops.And (source_net d a) (source_net d b)
row_op d (rows.Or a b) = ops.Or (source_net d a) (source_net d b)

-- a source reads what there is, and rows below this one
abbrev pub SourceReads : Drawing → ℕ → Source → Type 0
SourceReads d below (sources.Const b) = ⊤
SourceReads d below (sources.Leaf k) = d.given + 1 + k < d.first
SourceReads d below (sources.Input s) = s.0 < d.given
SourceReads d below (sources.Wire v) = Placed d.wires v.0
SourceReads d below (sources.Row r) = r < below

abbrev pub RowReads : Drawing → ℕ → Row → Type 0
RowReads d below (rows.Not a) = SourceReads d below a
RowReads d below (rows.And a b) = SourceReads d below a × SourceReads d below b
RowReads d below (rows.Or a b) = SourceReads d below a × SourceReads d below b

-- from one row up to another, each reads what there is, and rows below itself
abbrev pub RowsReady : Words → Drawing → (from to : ℕ) → Type 0
RowsReady w d from to = (k : ℕ) (x : Row) → from ≤ k → k < to → RowReads d k (slice_index_or w.rows.items k x)

-- the rows below this one have their nets
abbrev pub RowsPlaced : Drawing → ℕ → Type 0
RowsPlaced d to = (k : ℕ) → k < to → Placed d.rows k

-- all wires have their nets
abbrev pub WiresPlaced : Drawing → ℕ → Type 0
WiresPlaced d count = (v : ℕ) → v < count → Placed d.wires v

-- the ends of an instance up to a code have their nets
abbrev pub EndsReady : Graph → Words → Drawing → (i k : ℕ) → Type 0
EndsReady g w d i k = (v : ℕ) → first_end w i ≤ v → v < first_end w i + ends_upto g w i k → Placed d.wires v

-- the sources of an instance
abbrev pub kept_source : Words → ℕ → Source
kept_source w i = slice_index_or w.kept.items i (sources.Const false)

abbrev pub held_source : Words → ℕ → Source
held_source w i = slice_index_or w.held.items i (sources.Const false)

abbrev pub FormulaReady : Graph → Words → Drawing → Formula → Type 0
FormulaReady g w d (formulas.Const b) = ⊤
FormulaReady g w d formulas.Boot = ⊤
FormulaReady g w d (formulas.Input s) = ⊤
FormulaReady g w d (formulas.Wire v) = Placed d.wires v.0
FormulaReady g w d (formulas.Selected p) = SourceReady d (selected_source w p.0)
FormulaReady g w d (formulas.Upto i k) = (i.0 < length g.instances.list.items) × EndsReady g w d i.0 k
FormulaReady g w d (formulas.Kept i) = (i.0 < length g.instances.list.items) × SourceReady d (kept_source w i.0)
FormulaReady g w d (formulas.Held i) = (i.0 < length g.instances.list.items) × SourceReady d (held_source w i.0)
FormulaReady g w d (formulas.Not' _ a) = FormulaReady g w d a
FormulaReady g w d (formulas.And' _ a _ b) = FormulaReady g w d a × FormulaReady g w d b
FormulaReady g w d (formulas.Or' _ a _ b) = FormulaReady g w d a × FormulaReady g w d b
FormulaReady g w d (formulas.AnyOf v) = All (λ u. Placed d.wires u.0) v.items

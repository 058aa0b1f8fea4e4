-- Inner: what is made for the words on selected pauses.
use Rattle.std.specs.Prelude.{◌≡◌, ℕ, ◌<◌, ◌≤◌, false, List, length, drop, slice_index_or}
use Rattle.std.specs.List.{sum_by}
use Rattle.est_kernel.specs.Plain.{program_of}
use Rattle.est_kernel.specs.Preorder.{statement_count}
use Rattle.grc_graph.specs.declared.graph.Graph.{Graph}
use Rattle.grc_graph.specs.Residuals.{holds}
use Rattle.grc_graph.specs.Rows.{row_at, program_rows}
use Rattle.grc_graph.specs.SelectionTrees.{body_leaves, selecting}
use Rattle.grc_formulas.specs.declared.table.Source.{Source}
use Rattle.grc_formulas.specs.declared.table.Source.TheVariants.{Const}
use Rattle.grc_formulas.specs.declared.table.Row.{Row}
use Rattle.grc_formulas.specs.Building.{Says, RowsFit}
use Rattle.grc_formulas.specs.Occasions.{Occasion}
use Rattle.grc_graph.specs.RowCosts.{selection_rows}
use Rattle.grc_formulas.specs.WordLaws.{early_bounds}
use Rattle.std.specs.Prelude.{Bool, []}

-- which pauses the bits of an occasion select
abbrev pub selection : (g : Graph) → Occasion g → ℕ → Bool
selection g t = selecting (body_leaves (program_of g.program).body) t.bits

-- what is never resumed holds no selected pause
abbrev pub FalseUnlessResumed : Graph → List Source → Type 0
FalseUnlessResumed g sources = (n : ℕ) (d : Source) → n < length sources
    → (row_at (program_rows (program_of g.program)) n).live.resumed ≡ false → slice_index_or sources n d ≡ Const false

-- for each of so many statements, a source that says that it is a selected pause
pub record LeavesChosen (g : Graph) (count : ℕ) (sources : List Source) : Type 0 where
  pub many : length sources ≡ count
  pub resumed : FalseUnlessResumed g sources
  pub says : (n : ℕ) (d : Source) → n < count → Says g (early_bounds g 0) [] (slice_index_or sources n d)
      (λ t. selection g t n)

-- from this statement on each has a source that says that it holds a selected pause; each before says whether it is one
pub record SelectedMade (g : Graph) (sources : List Source) (rows : List Row) (from : ℕ) : Type 0 where
  pub fit : RowsFit (early_bounds g 0) rows
  pub many : length sources ≡ statement_count (program_of g.program).body
  pub few : length rows ≤ sum_by selection_rows (drop from (program_rows (program_of g.program)))
  pub resumed : FalseUnlessResumed g sources
  pub made : (n : ℕ) (d : Source) → from ≤ n → n < length sources
      → Says g (early_bounds g 0) rows (slice_index_or sources n d)
      (λ t. holds (selection g t) (row_at (program_rows (program_of g.program)) n).statement n)
  pub left : (n : ℕ) (d : Source) → n < from → n < length sources
      → Says g (early_bounds g 0) rows (slice_index_or sources n d) (λ t. selection g t n)

-- Inner: what the rows of a table say, once all are made.
use Rattle.std.specs.Prelude.{◌≡◌, List, length}
use Rattle.grc_graph.specs.declared.graph.Graph.{Graph}
use Rattle.grc_formulas.specs.declared.assembly.MadeSources.{MadeSources}
use Rattle.grc_formulas.specs.declared.table.Row.{Row}
use Rattle.grc_formulas.specs.Choosing.{SelectedMade}
use Rattle.grc_formulas.specs.EndLists.{PausedMade}
use Rattle.grc_formulas.specs.Holdings.{HoldingsMade}

-- The rows on selected pauses come first, then those on instances, and then what says that the program pauses.
pub record AreMade (g : Graph) (rows : List Row) (s : MadeSources) : Type 0 where
  pub early_rows : List Row
  pub late_rows : List Row
  pub early : s.early ≡ length early_rows
  pub selected : SelectedMade g s.selected.items early_rows 0
  pub holdings : HoldingsMade g early_rows late_rows s.kept.items s.held.items (length g.instances.list.items)
  pub paused : PausedMade g late_rows rows s.paused

use Rattle.grc_formulas.specs.Choosing.{SelectedMade}
use Rattle.grc_formulas.proofs.selected.select_parts.Given as goal

abbrev pub invariant-loop-place : goal.invariant-loop-place
invariant-loop-place l = SelectedMade l.graph l.sources l.rows.items l.place

use Rattle.grc_formulas.proofs.LeafChoices.{ChosenFrom}
use Rattle.grc_formulas.proofs.selected.leaf_sources.Given as goal

abbrev pub invariant-loop-place : goal.invariant-loop-place
invariant-loop-place l = ChosenFrom l.graph l.graph.tree.nodes.items l.count l.sources.items l.place

use Rattle.grc_formulas.specs.EndLists.{OutputsSaid}
use Rattle.grc_formulas.proofs.assembly.output_sources.Given as goal

abbrev pub invariant-loop-k : goal.invariant-loop-k
invariant-loop-k l = OutputsSaid l.graph l.k l.outputs.items

use Rattle.grc_formulas.specs.EndLists.{EndsFound}
use Rattle.grc_formulas.proofs.assembly.first_ends.Given as goal

abbrev pub invariant-loop-w : goal.invariant-loop-w
invariant-loop-w l = EndsFound l.graph l.w l.ends.items

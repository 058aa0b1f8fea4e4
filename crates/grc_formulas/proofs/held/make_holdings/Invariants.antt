use Rattle.grc_formulas.specs.Holdings.{HoldingsMade}
use Rattle.grc_formulas.proofs.held.make_holdings.Given as goal

abbrev pub invariant-loop-i : goal.invariant-loop-i
invariant-loop-i l = HoldingsMade l.graph l.initial.rows.items l.rows.items l.made.kept.items l.made.held.items l.i

use Rattle.grc_ternary_run.specs.Systems.{GatesMade}
use Rattle.grc_ternary_run.proofs.systems.make_gates.Given as goal

abbrev pub invariant-loop-formula : goal.invariant-loop-formula
invariant-loop-formula l = GatesMade l.making l.table.items l.gates.items l.formula-index

use Rattle.std.proofs.Common.{◌≤◌, drop}
use Rattle.grc_ternary_run.specs.Meanings.{NodeMade, any_meaning}
use Rattle.grc_ternary_run.proofs.formulas.any_gate.Given as goal

abbrev pub invariant-loop-place : goal.invariant-loop-place
invariant-loop-place l = record {
  within : l.place ≤ l.last;
  made : NodeMade l.making l.fn.table.items l.table.items l.node (any_meaning (drop l.place l.list));
}

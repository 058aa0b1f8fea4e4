use Rattle.std.proofs.Common.{◌≡◌, map, take}
use Rattle.blif_text.specs.Plain.{plain_table}
use Rattle.run_steps.specs.Plans.{Makes}
use Rattle.blif_run.specs.Truths.{step_at}
use Rattle.blif_run.proofs.truths.table_plan.Given as goal

abbrev pub invariant-loop-table : goal.invariant-loop-table
invariant-loop-table l = record {
  names : l.plan.named ≡ l.named;
  steps : Makes l.plan (map (step_at (map plain_table l.tables) l.first (map (λ r. r.items) l.reads)) (take l.table-index l.order));
}

use Rattle.std.proofs.Common.{◌≡◌, map, take}
use Rattle.csub_text.specs.Views.{assign_of}
use Rattle.run_steps.specs.Plans.{Makes}
use Rattle.csub_run.specs.Plans.{assign_step}
use Rattle.csub_run.proofs.plan.push_assigns.Given as goal

abbrev pub invariant-loop-assign : goal.invariant-loop-assign
invariant-loop-assign l = record {
  names : l.plan.named ≡ l.initial.plan.named;
  tables : l.plan.tables ≡ l.initial.plan.tables;
  steps : Makes l.plan (map (assign_step (map (λ k. k.now) l.slots.keys)) (map assign_of (take l.assign-index l.body)));
}

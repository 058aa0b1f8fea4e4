use Rattle.std.proofs.Common.{◌≡◌, length, map, take}
use Rattle.run_steps.specs.Plans.{Makes}
use Rattle.vlog_text.specs.Views.{assign_of}
use Rattle.vlog_run.specs.Plans.{step_at}
use Rattle.vlog_run.proofs.plan.assign_plan.Given as goal

abbrev pub invariant-loop-node : goal.invariant-loop-node
invariant-loop-node l = record {
  names : l.plan.named ≡ length l.slots.keys;
  steps : Makes l.plan (map (step_at (map (λ k. k.now) l.slots.keys) (map assign_of l.assigns)) (take l.node-index l.order));
}

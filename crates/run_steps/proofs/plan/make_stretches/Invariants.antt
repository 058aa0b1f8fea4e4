use Rattle.std.proofs.Common.{◌≡◌, drop}
use Rattle.run_steps.specs.Records.{stretches_made}
use Rattle.run_steps.proofs.plan.make_stretches.Given as goal

abbrev pub invariant-loop-stretch : goal.invariant-loop-stretch
invariant-loop-stretch l = stretches_made (drop l.stretch-index l.stretches) l.values ≡ stretches_made l.stretches l.initial.values

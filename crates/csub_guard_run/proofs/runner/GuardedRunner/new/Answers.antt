use Rattle.std.proofs.Common.{refl, arith}
use Rattle.csub_guard_run.proofs.Keeping.{fresh-by, keeps-by}
use Rattle.csub_guard_run.proofs.runner.GuardedRunner.new.Goals as goal

pub invariant_of-result : goal.invariant_of-result
invariant_of-result c =
    let parts = c.in_ok-plan.ensures in keeps-by _ c.requires parts.plan (omega (arith, parts.slots)) parts.outputs (omega arith)

pub returns-clause-fresh : goal.returns-clause-fresh
returns-clause-fresh c = record { calls = fresh-by c.args.program _ 0 c.in_ok-plan.ensures.values refl; total = refl }

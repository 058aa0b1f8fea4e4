use Rattle.csub_run.proofs.Machines.{fresh-by, keeps-by}
use Rattle.csub_run.proofs.runner.CRunner.new.Goals as goal

pub invariant_of-result : goal.invariant_of-result
invariant_of-result c =
    let parts = c.in_ok-plan.ensures in keeps-by _ c.requires parts.plan parts.slots parts.outputs

pub returns-clause-fresh : goal.returns-clause-fresh
returns-clause-fresh c = fresh-by c.args.program _ c.in_ok-plan.ensures.values

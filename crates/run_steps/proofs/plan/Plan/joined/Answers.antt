use Rattle.run_steps.proofs.Pushes.{pair-joins}
use Rattle.run_steps.proofs.plan.Plan.joined.Goals as goal

pub returns : goal.returns
returns c =
    pair-joins c.args.self.now c.operand.new.self c.operand-2.new.self c.args.junction c.args.left c.args.right c.in_ok-left.left c.in_ok-right.right
    c.pair.result c.in_ok-left.ensures c.in_ok-right.ensures c.pair.ensures.left c.pair.ensures.right c.pair.ensures.value

use Rattle.std.proofs.Common.{map, subst}
use Rattle.std.specs.Prelude.{OnOk}
use Rattle.net_expressions.specs.Views.{expr_of}
use Rattle.run_steps.specs.Expressions.{expr_step}
use Rattle.run_steps.specs.Plans.{Adds}
use Rattle.csub_run.proofs.plan.push_assign.Goals as goal

pub returns-clause-adds : goal.returns-clause-adds
returns-clause-adds c =
    let keys = map (λ k. k.now) c.args.slots.now.keys in
    subst (λ x. OnOk c.push_expr.result (Adds (expr_step keys x (expr_of c.args.assign.now.value)) c.args.plan.now c.push_expr.new.plan)) c.bytes.ensures
    c.push_expr.ensures.adds

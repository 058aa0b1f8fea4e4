use Rattle.std.proofs.Common.{◌∙◌, ap, subst}
use Rattle.base_types.specs.Distinct.{all_differ}
use Rattle.base_types.specs.Names.{is_same_name}
use Rattle.vlog_run.specs.Loops.{IsDescribed}
use Rattle.vlog_run.specs.ModuleAnswers.{bare_inputs}
use Rattle.vlog_run.specs.Runners.{Runner, module_in}
use Rattle.vlog_run.proofs.Described.{inputs-differ}
use Rattle.vlog_run.proofs.runner.VlogRunner.interface.Goals as goal

pub returns-in-Ok-clause-differ : goal.returns-in-Ok-clause-differ
returns-in-Ok-clause-differ c =
    let described = subst (λ (r : Runner). IsDescribed (module_in r)) c.self.view_is c.self.invariant.described in
    let own = ap (λ (r : Runner). bare_inputs (module_in r)) c.self.view_is in
    ap (all_differ is_same_name) (c.in-Ok.ensures.given ∙ own) ∙ inputs-differ (module_in c.args.self.now) described

use Rattle.std.proofs.Common.{◌∙◌, ap, subst}
use Rattle.base_types.specs.Distinct.{all_differ}
use Rattle.base_types.specs.Names.{is_same_name}
use Rattle.blif_run.specs.Loops.{IsDescribed}
use Rattle.blif_run.specs.Runners.{Runner}
use Rattle.blif_run.proofs.NetTexts.{inputs-differ}
use Rattle.blif_run.proofs.runner.BlifRunner.interface.Goals as goal

pub returns-clause-differ : goal.returns-clause-differ
returns-clause-differ c =
    let described = subst (λ (r : Runner). IsDescribed r.circuit) c.self.view_is c.self.invariant.described in
    let names = c.in_ok-copied_names.ensures ∙ c.deref.ensures.value ∙ ap (λ (r : Runner). r.circuit.inputs) c.self.view_is in
    ap (all_differ is_same_name) names ∙ inputs-differ c.args.self.now.circuit described

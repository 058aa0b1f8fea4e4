use Rattle.std.proofs.Common.{◌∙◌, ap, map, subst}
use Rattle.std.specs.Prelude.{filter}
use Rattle.base_types.specs.Distinct.{all_differ}
use Rattle.base_types.specs.Names.{is_same_name}
use Rattle.csub_text.specs.Grammar.{begins_input}
use Rattle.csub_run.specs.ProgramAnswers.{bare_inputs, bare_name}
use Rattle.csub_run.specs.Runners.{Runner, KeepsNames, program_in}
use Rattle.csub_run.proofs.BareNames.{inputs-differ}
use Rattle.csub_run.proofs.runner.CRunner.interface.Goals as goal

pub returns-in-Ok-clause-differ : goal.returns-in-Ok-clause-differ
returns-in-Ok-clause-differ c =
    let keeps = subst (λ (r : Runner). KeepsNames (program_in r)) c.self.view_is c.self.invariant.names_fit in
    let own = ap (λ l. map bare_name (filter begins_input l)) c.deref.ensures.value ∙ ap (λ (r : Runner). bare_inputs (program_in r)) c.self.view_is in
    ap (all_differ is_same_name) (c.in-Ok.ensures.given ∙ own) ∙ inputs-differ (program_in c.args.self.now) keeps

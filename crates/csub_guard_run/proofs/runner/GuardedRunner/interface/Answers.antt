use Rattle.std.proofs.Common.{◌∙◌, ap, map, subst}
use Rattle.std.specs.Prelude.{filter}
use Rattle.base_types.specs.Distinct.{all_differ}
use Rattle.base_types.specs.Names.{is_same_name}
use Rattle.csub_run.proofs.Exports.{once-differ}
use Rattle.csub_run.specs.ProgramAnswers.{bare_name}
use Rattle.csub_text.specs.Grammar.{begins_input}
use Rattle.csub_guard_run.specs.ProgramAnswers.{bare_inputs}
use Rattle.csub_guard_run.specs.Runners.{KeepsNames}
use Rattle.csub_guard_run.specs.Showing.{Counter, counted_program}
use Rattle.csub_guard_run.proofs.Fits.{names-once}
use Rattle.csub_guard_run.proofs.Keeping.{shell}
use Rattle.csub_guard_run.proofs.runner.GuardedRunner.interface.Goals as goal

pub returns-in-Ok-clause-differ : goal.returns-in-Ok-clause-differ
returns-in-Ok-clause-differ c =
    let keeps = subst (λ (m : Counter). KeepsNames (counted_program m)) c.self.view_is c.self.invariant.names_fit in
    let p = counted_program c.args.self.now in
    let own = ap (λ l. map bare_name (filter begins_input l)) c.deref.ensures.value ∙ ap (λ (m : Counter). bare_inputs (counted_program m)) c.self.view_is in
    ap (all_differ is_same_name) (c.in-Ok.ensures.given ∙ own) ∙ once-differ (shell p) (names-once p keeps)

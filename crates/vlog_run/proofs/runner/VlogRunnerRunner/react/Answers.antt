use Rattle.std.proofs.Common.{ap, ◌∙◌, sym, subst, length}
use Rattle.vlog_text.specs.Machine.{given_inputs}
use Rattle.vlog_text.specs.Views.{module_of}
use Rattle.vlog_run.specs.Loops.{IsDescribed}
use Rattle.vlog_run.specs.ModuleAnswers.{answer_of}
use Rattle.vlog_run.specs.Runners.{Runner, Reacts, module_in}
use Rattle.vlog_run.proofs.Described.{described-sound}
use Rattle.vlog_run.proofs.Reactions.{reacts-by, advanced-wide}
use Rattle.vlog_run.proofs.Showing.{answered-as}
use Rattle.vlog_run.proofs.runner.VlogRunnerRunner.react.Goals as goal

pub told_word-requires : goal.told_word-requires
told_word-requires c =
    ap length c.outputs.ensures
    ∙ advanced-wide (module_of c.self.inside.design) c.self.inside.registers c.react.new.self c.args.inputs.now c.self.invariant.plan c.react.ensures
    ∙ sym (ap length c.deref.ensures.value)

pub invariant_of-self : goal.invariant_of-self
invariant_of-self c =
    let keeps = c.self.invariant in
    let same = c.react.ensures.same in
    record {
      described = keeps.described;
      plan = rw (same.plan, same.sources, same.shown) keeps.plan;
      inputs_are = same.inputs ∙ keeps.inputs_are;
      initial_is = same.initial ∙ keeps.initial_is;
      each_output =
          advanced-wide (module_of c.self.inside.design) c.self.inside.registers c.react.new.self c.args.inputs.now keeps.plan c.react.ensures;
    }

pub returns-clause-answered : goal.returns-clause-answered
returns-clause-answered c =
    let code = c.self.inside.design in
    let keeps = c.self.invariant in
    let sound = described-sound keeps.described.0 (module_of code) keeps.described.1 in
    let given = c.requires ∙ ap (λ (r : Runner). length (given_inputs (module_in r))) (sym c.self.view_is) in
    let new : Runner = record { code = code; registers = c.react.new.self.registers; outputs = c.react.new.self.outputs } in
    let reacts = reacts-by code sound c.self.inside.registers c.react.new.self c.args.inputs.now keeps.plan keeps.initial_is given c.react.ensures in
    answered-as c.args.self.now new c.args.inputs.now c.told_word.result
    (subst (λ (r : Runner). IsDescribed (module_in r)) c.self.view_is keeps.described) (subst (λ r. Reacts r c.args.inputs.now new) c.self.view_is reacts)
    (c.told_word.ensures ∙ ap (λ names. (answer_of names c.outputs.result.now).word) c.deref.ensures.value
    ∙ ap (λ values. (answer_of (module_in new).outputs values).word) c.outputs.ensures)

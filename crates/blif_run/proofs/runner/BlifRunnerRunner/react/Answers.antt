use Rattle.std.proofs.Common.{ap, ◌∙◌, sym, subst, length}
use Rattle.blif_text.specs.Plain.{plain_circuit}
use Rattle.blif_text.proofs.Exports.{described-sound}
use Rattle.blif_run.specs.CircuitAnswers.{answer_of}
use Rattle.blif_run.specs.Loops.{IsDescribed}
use Rattle.blif_run.specs.Runners.{Runner, Reacts}
use Rattle.blif_run.proofs.Reactions.{reacts-by, advanced-wide}
use Rattle.blif_run.proofs.Showing.{answered-as}
use Rattle.blif_run.proofs.runner.BlifRunnerRunner.react.Goals as goal

pub told_word-requires : goal.told_word-requires
told_word-requires c =
    ap length c.outputs.ensures
    ∙ advanced-wide (plain_circuit c.self.inside.blif) c.self.inside.registers c.react.new.self c.args.inputs.now c.self.invariant.plan c.react.ensures
    ∙ sym (ap length c.deref.ensures.value)

pub invariant_of-self : goal.invariant_of-self
invariant_of-self c =
    let keeps = c.self.invariant in
    let same = c.react.ensures.same in
    record {
      described = keeps.described;
      plan = rw (same.plan, same.sources, same.shown) keeps.plan;
      inputs_are = same.inputs ∙ keeps.inputs_are;
      initial_is = same.initial ∙ keeps.initial_is;
      each_output =
          advanced-wide (plain_circuit c.self.inside.blif) c.self.inside.registers c.react.new.self c.args.inputs.now keeps.plan c.react.ensures;
    }

pub returns-clause-answered : goal.returns-clause-answered
returns-clause-answered c =
    let circuit = plain_circuit c.self.inside.blif in
    let keeps = c.self.invariant in
    let sound = described-sound keeps.described.0 circuit keeps.described.1 in
    let given = c.requires ∙ ap (λ (r : Runner). length r.circuit.inputs) (sym c.self.view_is) in
    let new : Runner = record { circuit = circuit; latches = c.react.new.self.registers; outputs = c.react.new.self.outputs } in
    let reacts = reacts-by circuit sound c.self.inside.registers c.react.new.self c.args.inputs.now keeps.plan keeps.initial_is given c.react.ensures in
    answered-as c.args.self.now new c.args.inputs.now c.told_word.result
    (subst (λ (r : Runner). IsDescribed r.circuit) c.self.view_is keeps.described) (subst (λ r. Reacts r c.args.inputs.now new) c.self.view_is reacts)
    (c.told_word.ensures ∙ ap (λ names. (answer_of names c.outputs.result.now).word) c.deref.ensures.value
    ∙ ap (λ values. (answer_of new.circuit.outputs values).word) c.outputs.ensures)

use Rattle.std.proofs.Common.{◌≡◌, length, sym, subst}
use Rattle.std.specs.Prelude.{IfErr, IfOk}
use Rattle.est_kernel.specs.Plain.{given_count}
use Rattle.grc_ternary_run.specs.Insides.{runner_of}
use Rattle.grc_ternary_run.specs.Runners.{IsStuck, TriReacts, program_in}
use Rattle.grc_ternary_run.specs.States.{runner_with}
use Rattle.grc_ternary_run.proofs.Programs.{keeps-going, reacted, stuck}
use Rattle.grc_ternary_run.proofs.runner.TriRunner.react.Goals as goal

pub invariant_of-self : goal.invariant_of-self
invariant_of-self c =
    let inputs = c.args.inputs.now in
    let width = subst (λ r. length inputs ≡ given_count (program_in r)) (sym c.self.view_is) c.requires in
    record {
      reads = c.self.invariant.reads;
      keeps = c.react.ensures.keeps;
      program = keeps-going _ _ inputs c.self.invariant.program width c.react.result c.react.ensures.steps c.react.ensures.stays;
    }

pub returns-clause-reacts : goal.returns-clause-reacts
returns-clause-reacts c =
    let inputs = c.args.inputs.now in
    let new = runner_with c.self.inside.graph.now c.react.new.self in
    let width = subst (λ r. length inputs ≡ given_count (program_in r)) (sym c.self.view_is) c.requires in
    subst (λ r. IfOk c.react.result (λ paused. TriReacts r inputs paused new)) c.self.view_is
    (reacted (runner_of c.self.inside) new inputs c.self.invariant.program width c.react.result c.react.ensures.steps)

pub returns-clause-stuck : goal.returns-clause-stuck
returns-clause-stuck c =
    let inputs = c.args.inputs.now in
    let new = runner_with c.self.inside.graph.now c.react.new.self in
    let width = subst (λ r. length inputs ≡ given_count (program_in r)) (sym c.self.view_is) c.requires in
    subst (λ r. IfErr c.react.result (λ e. IsStuck r inputs new)) c.self.view_is
    (stuck (runner_of c.self.inside) new inputs c.self.invariant.program width c.react.result c.react.ensures.stays)

use Rattle.std.proofs.Common.{◌≡◌, ap, ◌∙◌, map}
use Rattle.csub_text.specs.Views.{program_of}
use Rattle.csub_text.specs.Names.{declared, inputs_of, outputs_of}
use Rattle.run_steps.specs.Slots.{slot_in}
use Rattle.csub_run.proofs.Machines.{names-once}
use Rattle.csub_run.proofs.plan.plan_of.Goals as goal

pub slot_table-requires : goal.slot_table-requires
slot_table-requires c =
    rw (ap (map (λ w. w.now)) c.deref.ensures.value ∙ c.in_ok-names.ensures) (names-once (program_of c.args.program.now) c.requires)

pub body_plan-requires-clause-slots : goal.body_plan-requires-clause-slots
body_plan-requires-clause-slots c = c.in_ok-slots.ensures ∙ ap (map (λ w. w.now)) c.deref.ensures.value ∙ c.in_ok-names.ensures

pub returns : goal.returns
returns c =
    let p = program_of c.args.program.now in
    let keys : map (λ k. k.now) c.in_ok-slots.slots.keys ≡ declared p =
    c.in_ok-slots.ensures ∙ ap (map (λ w. w.now)) c.deref.ensures.value ∙ c.in_ok-names.ensures in
    let places = c.in_ok-inputs.ensures in
    record {
      inputs_are = places.inputs ∙ ap (λ ks. map (slot_in ks) (inputs_of p)) keys;
      outputs_are = places.outputs ∙ ap (λ ks. map (slot_in ks) (outputs_of p)) keys;
      body_is = c.in_ok-plan.ensures;
      initial_is = places.initial;
    }

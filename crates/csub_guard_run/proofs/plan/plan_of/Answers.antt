use Rattle.std.proofs.Common.{◌≡◌, ap, ◌∙◌, map}
use Rattle.csub_guard.specs.Machine.{inputs_of, outputs_of}
use Rattle.csub_guard.specs.Names.{declared}
use Rattle.csub_guard.specs.Views.{program_of}
use Rattle.run_steps.specs.Slots.{slot_in}
use Rattle.csub_guard_run.proofs.Bodies.{body-gates}
use Rattle.csub_guard_run.proofs.Fits.{names-once}
use Rattle.csub_guard_run.proofs.plan.plan_of.Goals as goal

pub slot_table-requires : goal.slot_table-requires
slot_table-requires c =
    rw (ap (map (λ w. w.now)) c.deref.ensures.value ∙ c.in_ok-names.ensures) (names-once (program_of c.args.program.now) c.requires)

pub end_of-requires-clause-slots : goal.end_of-requires-clause-slots
end_of-requires-clause-slots c = c.in_ok-slots.ensures ∙ ap (map (λ w. w.now)) c.deref.ensures.value ∙ c.in_ok-names.ensures

pub track_of-requires : goal.track_of-requires
track_of-requires c =
    let p = program_of c.args.program.now in
    body-gates (declared p) p.body c.in_ok-body.field-0.body c.in_ok-body.ensures.makes

pub returns : goal.returns
returns c =
    let p = program_of c.args.program.now in
    let keys : map (λ k. k.now) c.in_ok-slots.slots.keys ≡ declared p =
    c.in_ok-slots.ensures ∙ ap (map (λ w. w.now)) c.deref.ensures.value ∙ c.in_ok-names.ensures in
    let places = c.in_ok-inputs.ensures in
    record {
      inputs_are = places.inputs ∙ ap (λ ks. map (slot_in ks) (inputs_of p)) keys;
      outputs_are = places.outputs ∙ ap (λ ks. map (slot_in ks) (outputs_of p)) keys;
      body = c.in_ok-body.field-0.body;
      end_is = c.in_ok-body.ensures;
      track_is = c.in_ok-track.ensures;
      initial_is = places.initial;
    }

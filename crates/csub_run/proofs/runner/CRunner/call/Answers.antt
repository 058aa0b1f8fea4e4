use Rattle.std.proofs.Common.{◌<◌, sym, ap, ◌∙◌, subst, length, map, take, All, arith}
use Rattle.std.specs.Vec.{with_items}
use Rattle.std.proofs.lemmas.List.{with_items_is, length-take-le}
use Rattle.csub_text.specs.Machine.{value_of}
use Rattle.csub_text.specs.Views.{program_of}
use Rattle.csub_text.specs.Names.{declared}
use Rattle.run_steps.specs.Slots.{value_at, memory_in}
use Rattle.run_steps.specs.Plans.{term_value}
use Rattle.csub_run.specs.Plans.{put_all}
use Rattle.csub_run.specs.Runners.{Runner, Reacts}
use Rattle.csub_run.proofs.Machines.{inputs-low, outputs-low, called-front, body-made, body-says, reacts-by, keeps-by}
use Rattle.csub_run.proofs.runner.CRunner.call.Goals as goal

pub put_values-requires-clause-within : goal.put_values-requires-clause-within
put_values-requires-clause-within c =
    let p = program_of c.self.inside.program in
    let plan = c.self.invariant.plan in
    let wide = ap length c.deref_mut.ensures.value ∙ c.self.invariant.each_slot in
    let low = subst (λ l. All (λ k. k < length (declared p)) l) (sym (c.deref.ensures.value ∙ plan.inputs_are)) (inputs-low p) in
    λ k d h. omega (arith, low k d h, wide, plan.body_is.named_is, plan.body_is.named_low)

pub run-requires : goal.run-requires
run-requires c =
    let begun = with_items_is c.self.inside.values c.put_values.new.values (c.put_values.auto.values ∙ c.deref_mut.ensures.len) in
    let wide = ap length (c.deref_mut-2.ensures.value ∙ begun) ∙ c.put_values.auto.values ∙ ap length c.deref_mut.ensures.value ∙ c.self.invariant.each_slot in
    omega (arith, wide)

pub take_values-requires-clause-within : goal.take_values-requires-clause-within
take_values-requires-clause-within c =
    let p = program_of c.self.inside.program in
    let plan = c.self.invariant.plan in
    let begun = with_items_is c.self.inside.values c.put_values.new.values (c.put_values.auto.values ∙ c.deref_mut.ensures.len) in
    let ended = with_items_is (with_items c.self.inside.values c.put_values.new.values) c.run.new.values
    (c.run.auto.values ∙ c.deref_mut-2.ensures.len) in
    let wide = ap length (c.deref-3.ensures.value ∙ ended) ∙ c.run.auto.values ∙ ap length (c.deref_mut-2.ensures.value ∙ begun) ∙ c.put_values.auto.values
    ∙ ap length c.deref_mut.ensures.value ∙ c.self.invariant.each_slot in
    let low = subst (λ l. All (λ k. k < length (declared p)) l) (sym (c.deref-2.ensures.value ∙ plan.outputs_are)) (outputs-low p) in
    λ k d h. omega (arith, low k d h, wide, plan.body_is.named_is, plan.body_is.named_low)

pub value-requires : goal.value-requires
value-requires c =
    let body = c.self.invariant.plan.body_is in
    let begun = with_items_is c.self.inside.values c.put_values.new.values (c.put_values.auto.values ∙ c.deref_mut.ensures.len) in
    let ended = with_items_is (with_items c.self.inside.values c.put_values.new.values) c.run.new.values
    (c.run.auto.values ∙ c.deref_mut-2.ensures.len) in
    let wide = ap length (c.deref-4.ensures.value ∙ ended) ∙ c.run.auto.values ∙ ap length (c.deref_mut-2.ensures.value ∙ begun) ∙ c.put_values.auto.values
    ∙ ap length c.deref_mut.ensures.value ∙ c.self.invariant.each_slot in
    record {
      left_low = omega (arith, body.says.fits.left_low, body.free_low, wide);
      right_low = omega (arith, body.says.fits.right_low, body.free_low, wide);
    }

pub invariant_of-self : goal.invariant_of-self
invariant_of-self c =
    let begun = with_items_is c.self.inside.values c.put_values.new.values (c.put_values.auto.values ∙ c.deref_mut.ensures.len) in
    let ended = with_items_is (with_items c.self.inside.values c.put_values.new.values) c.run.new.values
    (c.run.auto.values ∙ c.deref_mut-2.ensures.len) in
    let wide = ap length ended ∙ c.run.auto.values ∙ ap length (c.deref_mut-2.ensures.value ∙ begun) ∙ c.put_values.auto.values
    ∙ ap length c.deref_mut.ensures.value ∙ c.self.invariant.each_slot in
    let shown = with_items_is c.self.inside.outputs c.take_values.new.taken (c.take_values.auto.taken ∙ c.deref_mut-3.ensures.len)
    ∙ c.take_values.ensures ∙ ap (λ v. map (value_at v) c.deref-2.result.now) c.deref-3.ensures.value ∙ ap (map (value_at _)) c.deref-2.ensures.value in
    keeps-by _ c.self.invariant.names_fit c.self.invariant.plan wide shown

pub returns : goal.returns
returns c =
    let code = c.self.inside.program in
    let p = program_of code in
    let plan = c.self.invariant.plan in
    let inputs = c.args.inputs.now in
    let values = c.self.inside.values.items in
    let begun = c.deref_mut-2.result.now in
    let starts = c.deref_mut-2.ensures.value
    ∙ with_items_is c.self.inside.values c.put_values.new.values (c.put_values.auto.values ∙ c.deref_mut.ensures.len) in
    let ended = with_items_is (with_items c.self.inside.values c.put_values.new.values) c.run.new.values
    (c.run.auto.values ∙ c.deref_mut-2.ensures.len) in
    let wide = ap length starts ∙ c.put_values.auto.values ∙ ap length c.deref_mut.ensures.value ∙ c.self.invariant.each_slot in
    let begins = starts ∙ c.put_values.ensures ∙ ap (put_all c.deref.result.now inputs) c.deref_mut.ensures.value in
    let runs = c.run.ensures in
    let n = length (declared p) in
    let after = called-front p c.deref.result.now inputs values begun c.run.new.values (c.deref.ensures.value ∙ plan.inputs_are) begins
    (body-made p c.self.inside.plan.body c.self.inside.plan.answer begun c.run.new.values plan.body_is wide runs) in
    let new = with_items (with_items c.self.inside.values c.put_values.new.values) c.run.new.values in
    let answer = c.value.ensures ∙ ap (term_value c.self.inside.plan.answer) (c.deref-4.ensures.value ∙ ended)
    ∙ body-says p c.self.inside.plan.body c.self.inside.plan.answer begun c.run.new.values plan.body_is wide runs
    ∙ ap (λ v. value_of (memory_in (declared p) (take n v)) p.answer) (sym ended) in
    let next : Runner = record { code = code; values = take n new.items } in
    let narrow = length-take-le n values (omega (arith, c.self.invariant.each_slot, plan.body_is.named_is, plan.body_is.named_low)) in
    subst (λ r. Reacts r inputs c.value.result next) c.self.view_is
    (reacts-by code c.self.invariant.names_fit (take n values) inputs (take n new.items) c.value.result narrow (ap (take n) ended ∙ after) answer)

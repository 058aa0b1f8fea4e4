use Rattle.std.proofs.Common.{◌<◌, sym, ap, ◌∙◌, subst, length, map, take, All, arith}
use Rattle.std.specs.Vec.{with_items}
use Rattle.std.proofs.lemmas.List.{with_items_is}
use Rattle.csub_guard.specs.Names.{declared}
use Rattle.csub_guard.specs.Views.{program_of}
use Rattle.csub_run.specs.Plans.{put_all}
use Rattle.csub_run.proofs.Exports.{inputs-low, outputs-low}
use Rattle.run_steps.specs.Plans.{term_value}
use Rattle.run_steps.specs.Slots.{value_at}
use Rattle.csub_guard_run.specs.Runners.{Reacts}
use Rattle.csub_guard_run.specs.Runs.{BodyFits}
use Rattle.csub_guard_run.specs.Showing.{Counter, IsSum}
use Rattle.csub_guard_run.specs.Totals.{worth_of}
use Rattle.csub_guard_run.specs.declared.track.Jump.{Jump}
use Rattle.csub_guard_run.proofs.Bodies.{names-low}
use Rattle.csub_guard_run.proofs.Keeping.{shell, called-by, keeps-by, reacts-by, tests-fit}
use Rattle.csub_guard_run.proofs.Tracks.{track-made, track-counted, track-fits, track-ordered, track-tests}
use Rattle.csub_guard_run.proofs.runner.GuardedRunner.call.Goals as goal

pub put_values-requires-clause-within : goal.put_values-requires-clause-within
put_values-requires-clause-within c =
    let p = program_of c.self.inside.program in
    let plan = c.self.invariant.plan in
    let wide = ap length c.deref_mut.ensures.value in
    let names = names-low p plan.body c.self.inside.plan.answer (length c.self.inside.values.items) plan.end_is
    (track-fits plan.body c.self.inside.plan.track (length c.self.inside.values.items) plan.track_is c.self.invariant.each_slot) in
    let low = subst (λ l. All (λ k. k < length (declared p)) l) (sym (c.deref.ensures.value ∙ plan.inputs_are)) (inputs-low (shell p)) in
    λ k d h. omega (arith, low k d h, wide, names)

pub run_track-self-inside-requires-clause-fits : goal.run_track-self-inside-requires-clause-fits
run_track-self-inside-requires-clause-fits c =
    let begun = with_items_is c.self.inside.values c.put_values.new.values (c.put_values.auto.values ∙ c.deref_mut.ensures.len) in
    let wide = ap length (c.deref_mut-2.ensures.value ∙ begun) ∙ c.put_values.auto.values ∙ ap length c.deref_mut.ensures.value in
    omega (arith, wide, c.self.invariant.each_slot)

pub run_track-self-inside-requires-clause-order : goal.run_track-self-inside-requires-clause-order
run_track-self-inside-requires-clause-order c = track-ordered c.self.invariant.plan.body c.self.inside.plan.track c.self.invariant.plan.track_is

pub run_track-self-inside-requires-clause-tests : goal.run_track-self-inside-requires-clause-tests
run_track-self-inside-requires-clause-tests c =
    let p = program_of c.self.inside.program in
    let plan = c.self.invariant.plan in
    let begun = with_items_is c.self.inside.values c.put_values.new.values (c.put_values.auto.values ∙ c.deref_mut.ensures.len) in
    let wide = ap length (c.deref_mut-2.ensures.value ∙ begun) ∙ c.put_values.auto.values ∙ ap length c.deref_mut.ensures.value in
    let n = length c.self.inside.values.items in
    subst (λ n. All (λ (j : Jump). j.test < n) c.self.inside.plan.track.jumps.items) (sym wide)
    (track-tests plan.body c.self.inside.plan.track n plan.track_is
    (tests-fit p plan.body c.self.inside.plan.answer n plan.end_is (track-fits plan.body c.self.inside.plan.track n plan.track_is c.self.invariant.each_slot)))

pub take_values-requires-clause-within : goal.take_values-requires-clause-within
take_values-requires-clause-within c =
    let p = program_of c.self.inside.program in
    let plan = c.self.invariant.plan in
    let begun = with_items_is c.self.inside.values c.put_values.new.values (c.put_values.auto.values ∙ c.deref_mut.ensures.len) in
    let ended = with_items_is (with_items c.self.inside.values c.put_values.new.values) c.run_track-self-inside.new.values
    (c.run_track-self-inside.auto.values ∙ c.deref_mut-2.ensures.len) in
    let wide = ap length (c.deref-3.ensures.value ∙ ended) ∙ c.run_track-self-inside.auto.values ∙ ap length (c.deref_mut-2.ensures.value ∙ begun)
    ∙ c.put_values.auto.values
    ∙ ap length c.deref_mut.ensures.value in
    let names = names-low p plan.body c.self.inside.plan.answer (length c.self.inside.values.items) plan.end_is
    (track-fits plan.body c.self.inside.plan.track (length c.self.inside.values.items) plan.track_is c.self.invariant.each_slot) in
    let low = subst (λ l. All (λ k. k < length (declared p)) l) (sym (c.deref-2.ensures.value ∙ plan.outputs_are)) (outputs-low (shell p)) in
    λ k d h. omega (arith, low k d h, wide, names)

pub value-requires : goal.value-requires
value-requires c =
    let plan = c.self.invariant.plan in
    let end = plan.end_is in
    let fits = track-fits plan.body c.self.inside.plan.track (length c.self.inside.values.items) plan.track_is c.self.invariant.each_slot in
    let begun = with_items_is c.self.inside.values c.put_values.new.values (c.put_values.auto.values ∙ c.deref_mut.ensures.len) in
    let ended = with_items_is (with_items c.self.inside.values c.put_values.new.values) c.run_track-self-inside.new.values
    (c.run_track-self-inside.auto.values ∙ c.deref_mut-2.ensures.len) in
    let wide = ap length (c.deref-4.ensures.value ∙ ended) ∙ c.run_track-self-inside.auto.values ∙ ap length (c.deref_mut-2.ensures.value ∙ begun)
    ∙ c.put_values.auto.values
    ∙ ap length c.deref_mut.ensures.value in
    record {
      left_low = omega (arith, end.says.fits.left_low, end.free_low, fits.last, wide);
      right_low = omega (arith, end.says.fits.right_low, end.free_low, fits.last, wide);
    }

pub invariant_of-self : goal.invariant_of-self
invariant_of-self c =
    let begun = with_items_is c.self.inside.values c.put_values.new.values (c.put_values.auto.values ∙ c.deref_mut.ensures.len) in
    let ended = with_items_is (with_items c.self.inside.values c.put_values.new.values) c.run_track-self-inside.new.values
    (c.run_track-self-inside.auto.values ∙ c.deref_mut-2.ensures.len) in
    let wide = ap length ended ∙ c.run_track-self-inside.auto.values ∙ ap length (c.deref_mut-2.ensures.value ∙ begun) ∙ c.put_values.auto.values
    ∙ ap length c.deref_mut.ensures.value in
    let shown = with_items_is c.self.inside.outputs c.take_values.new.taken (c.take_values.auto.taken ∙ c.deref_mut-3.ensures.len)
    ∙ c.take_values.ensures ∙ ap (λ v. map (value_at v) c.deref-2.result.now) c.deref-3.ensures.value ∙ ap (map (value_at _)) c.deref-2.ensures.value in
    keeps-by _ c.self.invariant.names_fit c.self.invariant.plan (omega (arith, wide, c.self.invariant.each_slot)) shown
    c.sum_of-self-inside.ensures.room

pub returns-clause-reacts : goal.returns-clause-reacts
returns-clause-reacts c =
    let code = c.self.inside.program in
    let p = program_of code in
    let plan = c.self.invariant.plan in
    let inputs = c.args.inputs.now in
    let values = c.self.inside.values.items in
    let begun = c.deref_mut-2.result.now in
    let starts = c.deref_mut-2.ensures.value
    ∙ with_items_is c.self.inside.values c.put_values.new.values (c.put_values.auto.values ∙ c.deref_mut.ensures.len) in
    let ended = with_items_is (with_items c.self.inside.values c.put_values.new.values) c.run_track-self-inside.new.values
    (c.run_track-self-inside.auto.values ∙ c.deref_mut-2.ensures.len) in
    let wide = ap length starts ∙ c.put_values.auto.values ∙ ap length c.deref_mut.ensures.value in
    let begins = starts ∙ c.put_values.ensures ∙ ap (put_all c.deref.result.now inputs) c.deref_mut.ensures.value
    ∙ ap (λ l. put_all l inputs values) (c.deref.ensures.value ∙ plan.inputs_are) in
    let n = length (declared p) in
    let fits = track-fits plan.body c.self.inside.plan.track (length values) plan.track_is c.self.invariant.each_slot in
    let names = names-low p plan.body c.self.inside.plan.answer (length values) plan.end_is fits in
    let called = called-by p plan.body c.self.inside.plan.answer inputs values begun c.run_track-self-inside.new.values plan.end_is
    (subst (λ k. BodyFits k plan.body) (sym wide) fits) (omega (arith, names)) begins
    (c.run_track-self-inside.ensures.values ∙ track-made plan.body c.self.inside.plan.track begun plan.track_is) in
    let new = with_items (with_items c.self.inside.values c.put_values.new.values) c.run_track-self-inside.new.values in
    let answer = c.value.ensures ∙ ap (term_value c.self.inside.plan.answer) (c.deref-4.ensures.value ∙ ended) in
    subst (λ (m : Counter). Reacts m.calls inputs c.value.result (record { code = code; values = take n new.items; count = c.run_track-self-inside.result }))
    c.self.view_is
    (reacts-by code plan.body c.self.inside.plan.answer inputs values begun c.run_track-self-inside.new.values new.items c.self.inside.count
    c.run_track-self-inside.result c.value.result called ended
    (c.run_track-self-inside.ensures.count ∙ track-counted plan.body c.self.inside.plan.track begun plan.track_is) answer)

pub returns-clause-sum : goal.returns-clause-sum
returns-clause-sum c =
    subst (λ total. IsSum total c.run_track-self-inside.result (worth_of c.sum_of-self-inside.result)) (ap (λ (m : Counter). m.total) c.self.view_is)
    c.sum_of-self-inside.ensures.sum

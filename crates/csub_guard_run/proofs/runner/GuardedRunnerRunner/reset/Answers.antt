use Rattle.std.proofs.Common.{◌<◌, refl, sym, ap, ◌∙◌, subst, length, map, take, All, arith}
use Rattle.std.specs.Vec.{with_items}
use Rattle.std.proofs.lemmas.List.{with_items_is}
use Rattle.csub_guard.specs.Names.{declared}
use Rattle.csub_guard.specs.Views.{program_of}
use Rattle.csub_run.proofs.Exports.{wide-first, outputs-low}
use Rattle.run_steps.specs.Slots.{value_at}
use Rattle.csub_guard_run.specs.Runners.{Resets}
use Rattle.csub_guard_run.specs.Showing.{Counter}
use Rattle.csub_guard_run.specs.Totals.{worth_of}
use Rattle.csub_guard_run.proofs.Showing.{put_back, reset_passes}
use Rattle.csub_guard_run.proofs.Bodies.{names-low}
use Rattle.csub_guard_run.proofs.Keeping.{shell, fresh-by, keeps-by}
use Rattle.csub_guard_run.proofs.Tracks.{track-fits}
use Rattle.csub_guard_run.proofs.runner.GuardedRunnerRunner.reset.Goals as goal

pub put_front-requires : goal.put_front-requires
put_front-requires c =
    let p = program_of c.self.inside.program in
    let plan = c.self.invariant.plan in
    let front = ap length (c.deref.ensures.value ∙ plan.initial_is) ∙ wide-first (shell p) in
    let wide = ap length c.deref_mut.ensures.value in
    let names = names-low p plan.body c.self.inside.plan.answer (length c.self.inside.values.items) plan.end_is
    (track-fits plan.body c.self.inside.plan.track (length c.self.inside.values.items) plan.track_is c.self.invariant.each_slot) in
    omega (arith, front, wide, names)

pub take_values-requires-clause-within : goal.take_values-requires-clause-within
take_values-requires-clause-within c =
    let p = program_of c.self.inside.program in
    let plan = c.self.invariant.plan in
    let begun = with_items_is c.self.inside.values c.put_front.new.values (c.put_front.auto.values ∙ c.deref_mut.ensures.len) in
    let wide = ap length (c.deref-3.ensures.value ∙ begun) ∙ c.put_front.ensures.len ∙ ap length c.deref_mut.ensures.value in
    let names = names-low p plan.body c.self.inside.plan.answer (length c.self.inside.values.items) plan.end_is
    (track-fits plan.body c.self.inside.plan.track (length c.self.inside.values.items) plan.track_is c.self.invariant.each_slot) in
    let low = subst (λ l. All (λ k. k < length (declared p)) l) (sym (c.deref-2.ensures.value ∙ plan.outputs_are)) (outputs-low (shell p)) in
    λ k d h. omega (arith, low k d h, wide, names)

pub invariant_of-self : goal.invariant_of-self
invariant_of-self c =
    let begun = with_items_is c.self.inside.values c.put_front.new.values (c.put_front.auto.values ∙ c.deref_mut.ensures.len) in
    let wide = ap length begun ∙ c.put_front.ensures.len ∙ ap length c.deref_mut.ensures.value in
    let shown = with_items_is c.self.inside.outputs c.take_values.new.taken (c.take_values.auto.taken ∙ c.deref_mut-2.ensures.len)
    ∙ c.take_values.ensures ∙ ap (λ v. map (value_at v) c.deref-2.result.now) c.deref-3.ensures.value ∙ ap (map (value_at _)) c.deref-2.ensures.value in
    keeps-by _ c.self.invariant.names_fit c.self.invariant.plan (omega (arith, wide, c.self.invariant.each_slot))
    shown c.self.invariant.room

pub returns-clause-put_back : goal.returns-clause-put_back
returns-clause-put_back c =
    let code = c.self.inside.program in
    let p = program_of code in
    let n = length (declared p) in
    let plan = c.self.invariant.plan in
    let begun = with_items_is c.self.inside.values c.put_front.new.values (c.put_front.auto.values ∙ c.deref_mut.ensures.len) in
    let front = c.deref.ensures.value ∙ plan.initial_is in
    let count = ap length front ∙ wide-first (shell p) in
    let new = with_items c.self.inside.values c.put_front.new.values in
    let is = ap (take n) begun ∙ ap (λ k. take k c.put_front.new.values) (sym count) ∙ c.put_front.ensures.front ∙ front in
    let next : Counter = record { calls = record { code = code; values = take n new.items; count = 0 }; total = worth_of c.self.inside.total } in
    put_back c.args.self.now next (subst (λ (m : Counter). Resets m.calls next.calls) c.self.view_is
    (record { same = refl; fresh = fresh-by code (take n new.items) 0 is refl }))

pub returns-clause-passes : goal.returns-clause-passes
returns-clause-passes c =
    let code = c.self.inside.program in
    let p = program_of code in
    let n = length (declared p) in
    let plan = c.self.invariant.plan in
    let begun = with_items_is c.self.inside.values c.put_front.new.values (c.put_front.auto.values ∙ c.deref_mut.ensures.len) in
    let front = c.deref.ensures.value ∙ plan.initial_is in
    let count = ap length front ∙ wide-first (shell p) in
    let new = with_items c.self.inside.values c.put_front.new.values in
    let is = ap (take n) begun ∙ ap (λ k. take k c.put_front.new.values) (sym count) ∙ c.put_front.ensures.front ∙ front in
    let next : Counter = record { calls = record { code = code; values = take n new.items; count = 0 }; total = worth_of c.self.inside.total } in
    reset_passes c.args.self.now next (subst (λ (m : Counter). Resets m.calls next.calls) c.self.view_is
    (record { same = refl; fresh = fresh-by code (take n new.items) 0 is refl }))
    (ap (λ (m : Counter). m.total) c.self.view_is)

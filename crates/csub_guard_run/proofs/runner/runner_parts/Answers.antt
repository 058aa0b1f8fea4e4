use Rattle.std.proofs.Common.{rules, ◌≡◌, ◌<◌, ◌≤◌, length, sym, ap, ◌∙◌, subst, arith, All}
use Rattle.std.proofs.lemmas.List.{with_items_is}
use Rattle.csub_guard.specs.Names.{declared}
use Rattle.csub_guard.specs.Views.{program_of}
use Rattle.csub_run.proofs.Exports.{outputs-low}
use Rattle.csub_guard_run.proofs.Bodies.{names-low}
use Rattle.csub_guard_run.proofs.Keeping.{shell}
use Rattle.csub_guard_run.proofs.Tracks.{track-fits}
use Rattle.csub_guard_run.proofs.runner.runner_parts.Goals as goal

pub take_values-requires-clause-within : goal.take_values-requires-clause-within
take_values-requires-clause-within c =
    let p = program_of c.args.program.now in
    let plan = c.in_ok-plan.ensures in
    let begun = with_items_is c.in_ok-values.values c.put_front.new.values (c.put_front.auto.values ∙ c.deref_mut.ensures.len) in
    let count : length c.in_ok-values.values.items ≡ c.slots.result = search rules in
    let wide = ap length (c.deref-3.ensures.value ∙ begun) ∙ c.put_front.ensures.len ∙ ap length c.deref_mut.ensures.value ∙ count in
    let wide_enough : c.in_ok-plan.plan.track.gates.slots ≤ c.slots.result = omega (arith, c.slots.ensures) in
    let names = names-low p plan.body c.in_ok-plan.plan.answer c.slots.result plan.end_is
    (track-fits plan.body c.in_ok-plan.plan.track c.slots.result plan.track_is wide_enough) in
    let low = subst (λ l. All (λ k. k < length (declared p)) l) (sym (c.deref-2.ensures.value ∙ plan.outputs_are)) (outputs-low (shell p)) in
    λ k d h. omega (arith, low k d h, wide, names)

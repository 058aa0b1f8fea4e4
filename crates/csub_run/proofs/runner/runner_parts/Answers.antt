use Rattle.std.proofs.Common.{rules, ◌≡◌, ◌<◌, length, sym, ap, ◌∙◌, subst, arith, All}
use Rattle.std.proofs.lemmas.List.{with_items_is}
use Rattle.csub_text.specs.Names.{declared}
use Rattle.csub_text.specs.Views.{program_of}
use Rattle.csub_run.proofs.Machines.{outputs-low}
use Rattle.csub_run.proofs.runner.runner_parts.Goals as goal

pub take_values-requires-clause-within : goal.take_values-requires-clause-within
take_values-requires-clause-within c =
    let p = program_of c.args.program.now in
    let plan = c.in_ok-plan.ensures in
    let begun = with_items_is c.in_ok-values.values c.put_front.new.values (c.put_front.auto.values ∙ c.deref_mut.ensures.len) in
    let count : length c.in_ok-values.values.items ≡ c.slots.result = search rules in
    let wide = ap length (c.deref-3.ensures.value ∙ begun) ∙ c.put_front.ensures.len ∙ ap length c.deref_mut.ensures.value ∙ count ∙ c.slots.ensures.slots in
    let low = subst (λ l. All (λ k. k < length (declared p)) l) (sym (c.deref-2.ensures.value ∙ plan.outputs_are)) (outputs-low p) in
    λ k d h. omega (arith, low k d h, wide, plan.body_is.named_is, plan.body_is.named_low)

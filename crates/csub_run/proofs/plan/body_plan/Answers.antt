use Rattle.std.proofs.Common.{◌≡◌, ◌<◌, length, map, get_or, sym, ap, ◌∙◌, subst, arith}
use Rattle.std.proofs.lemmas.List.{length-map, get_or-map}
use Rattle.csub_text.specs.Machine.{value_of}
use Rattle.csub_text.specs.Names.{declared}
use Rattle.csub_text.specs.Views.{assign_of, program_of}
use Rattle.run_steps.specs.Slots.{slot_in, memory_in}
use Rattle.run_steps.specs.Plans.{Makes}
use Rattle.run_steps.proofs.Exports.{says-is, value-is}
use Rattle.run_steps.specs.Expressions.{expr_value}
use Rattle.csub_run.specs.Plans.{assign_step}
use Rattle.csub_run.proofs.Machines.{targets-low}
use Rattle.csub_run.proofs.plan.body_plan.Goals as goal

pub push_assigns-requires-clause-declared : goal.push_assigns-requires-clause-declared
push_assigns-requires-clause-declared c = λ k d h.
    let p = program_of c.args.program.now in
    let keys = c.args.slots.now.keys in
    let body = c.args.program.now.body.items in
    let plan = c.in_ok-plan.plan in
    let low : k < length body = omega (arith, h, ap length c.deref.ensures.value) in
    let own = targets-low p c.requires.names k (assign_of d) (omega (arith, low, length-map body assign_of)) in
    let here = subst (λ a. slot_in (declared p) a.target < length (declared p)) (get_or-map assign_of body k d (assign_of d) low) own in
    let named : plan.named ≡ length (declared p) =
    c.in_ok-plan.ensures.named ∙ c.len.ensures.len ∙ sym (length-map keys (λ x. x.now)) ∙ ap length c.requires.slots in
    subst (λ l. slot_in (map (λ x. x.now) keys) (get_or l k d).to < plan.named) (sym c.deref.ensures.value)
    (subst (λ ks. slot_in ks (get_or body k d).to < plan.named) (sym c.requires.slots) (omega (arith, here, named)))

pub returns : goal.returns
returns c =
    let p = program_of c.args.program.now in
    let keys = map (λ x. x.now) c.args.slots.now.keys in
    let body = c.args.program.now.body.items in
    let new = c.expr_term.new.plan in
    let answer = c.args.program.now.answer in
    let named = c.in_ok-plan.ensures.named ∙ c.len.ensures.len ∙ sym (length-map c.args.slots.now.keys (λ x. x.now)) ∙ ap length c.requires.slots in
    let makes = c.in_ok-answer.ensures.keeps.makes (map (assign_step keys) (map assign_of c.deref.result.now)) c.in_ok-push_assigns.ensures.makes in
    record {
      named_is = c.in_ok-answer.ensures.keeps.named ∙ c.in_ok-push_assigns.ensures.named ∙ named;
      named_low = omega (arith, c.slots.ensures.names, c.slots.ensures.free);
      free_low = c.slots.ensures.free;
      makes = subst (λ ks. Makes new (map (assign_step ks) (map assign_of body))) c.requires.slots
          (subst (λ l. Makes new (map (assign_step keys) (map assign_of l))) c.deref.ensures.value makes);
      says = says-is new c.in_ok-answer.answer (expr_value keys answer) (λ values. value_of (memory_in (declared p) values) p.answer)
          (λ values. value-is keys answer values ∙ ap (λ ks. value_of (memory_in ks values) p.answer) c.requires.slots) c.in_ok-answer.ensures.says;
    }

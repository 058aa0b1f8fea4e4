use Rattle.std.proofs.Common.{◌<◌, sym, ap, ◌∙◌, subst, length, map, get_or, All, arith}
use Rattle.std.proofs.lemmas.List.{length-map, get_or-map}
use Rattle.std.proofs.lemmas.List.Elements.{recursion_from_All}
use Rattle.run_steps.specs.Plans.{Makes}
use Rattle.run_steps.specs.Slots.{slot_in}
use Rattle.run_steps.proofs.Exports.{slots-are}
use Rattle.vlog_text.specs.Machine.{driven_names}
use Rattle.vlog_text.specs.Views.{module_of, assign_of}
use Rattle.vlog_run.specs.Loops.{equation_of}
use Rattle.vlog_run.specs.Plans.{step_at}
use Rattle.vlog_run.proofs.Described.{described-sound}
use Rattle.vlog_run.proofs.ModuleEquations.{names-are, targets-low, steps-are}
use Rattle.vlog_run.proofs.plan.ordered_plan.Goals as goal

pub assign_plan-requires-clause-targets : goal.assign_plan-requires-clause-targets
assign_plan-requires-clause-targets c = λ k d h.
    let design = module_of c.args.design.now in
    let sound = described-sound c.requires.described.0 design c.requires.described.1 in
    let keys = c.args.resolved.now.slots.keys in
    let same = c.requires.resolved.keys_are ∙ names-are design in
    let assigns = c.args.design.now.assigns.items in
    let low : k < length assigns = omega (arith, h, ap length c.deref-3.ensures.value) in
    let own = targets-low design sound k (assign_of d) (omega (arith, low, length-map assigns assign_of)) in
    let here = subst (λ a. slot_in (driven_names design) a.target < length (driven_names design)) (get_or-map assign_of assigns k d (assign_of d) low) own in
    let wide = ap length (sym same) ∙ length-map keys (λ x. x.now) in
    subst (λ l. slot_in (map (λ x. x.now) keys) (get_or l k d).to < length keys) (sym c.deref-3.ensures.value)
    (subst (λ ks. slot_in ks (get_or assigns k d).to < length keys) (sym same) (omega (arith, here, wide)))

pub assign_plan-requires-clause-nodes : goal.assign_plan-requires-clause-nodes
assign_plan-requires-clause-nodes c = λ k d low.
    let design = module_of c.args.design.now in
    let h = c.requires.order in
    let a = length-map c.args.design.now.assigns.items assign_of in
    let b = length-map design.assigns equation_of in
    let inside = h.against.nodes k d low in
    omega (arith, inside, h.each_node, a, b, ap length c.deref-3.ensures.value)

pub returns : goal.returns
returns c =
    let design = module_of c.args.design.now in
    let sound = described-sound c.requires.described.0 design c.requires.described.1 in
    let keys = c.args.resolved.now.slots.keys in
    let same = c.requires.resolved.keys_are ∙ names-are design in
    let order = c.args.order.now in
    let h = c.requires.order in
    let plan = c.in_ok-assigns.assigns in
    let nodes : All (λ k. k < length design.assigns) order = λ k d low.
    omega (arith, h.against.nodes k d low, h.each_node, length-map design.assigns equation_of) in
    let makes : Makes plan (map (step_at (driven_names design) design.assigns) order) =
    subst (λ ns. Makes plan (map (step_at ns design.assigns) order)) same
    (subst (λ l. Makes plan (map (step_at (map (λ k. k.now) keys) (map assign_of l)) order)) c.deref-3.ensures.value c.in_ok-assigns.ensures.makes) in
    record {
      solver = record {
        named_is = c.in_ok-assigns.ensures.named ∙ sym (length-map keys (λ k. k.now)) ∙ ap length c.requires.resolved.keys_are;
        order = order;
        ordered = h;
        makes = subst (λ steps. Makes plan steps) (steps-are design order (recursion_from_All (λ k. k < length design.assigns) order nodes)) makes;
      };
      sources_are = slots-are (driven_names design) (map (λ k. k.now) keys) (map (λ r. r.from) design.registers) c.in_ok-sources.sources.items same
          (rw (sym c.deref.ensures.value) c.in_ok-sources.ensures) sound.sources;
      shown_are = slots-are (driven_names design) (map (λ k. k.now) keys) design.outputs c.in_ok-shown.shown.items same
          (rw (sym c.deref-2.ensures.value) c.in_ok-shown.ensures) sound.outputs;
    }

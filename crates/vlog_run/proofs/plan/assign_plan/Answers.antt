use Rattle.std.proofs.Common.{◌≡◌, ◌+◌, ◌<◌, ◌++◌, [], ◌∷◌, length, map, take, get_or, sym, ap, ◌∙◌, subst, arith}
use Rattle.std.proofs.lemmas.List.{get_or-map, map-append, take_more}
use Rattle.run_steps.specs.Plans.{Adds, Makes}
use Rattle.run_steps.specs.Slots.{slot_in}
use Rattle.vlog_text.specs.Views.{assign_of}
use Rattle.vlog_run.specs.Plans.{assign_step, no_assign, step_at}
use Rattle.vlog_run.proofs.plan.assign_plan.Goals as goal

pub push_assign-requires : goal.push_assign-requires
push_assign-requires c =
    let keys = map (λ k. k.now) c.args.slots.now.keys in
    let item = c.index-assigns-node.result in
    let node = c.requires.nodes c.loop-node.node-index 0 (omega arith) in
    let low = c.requires.targets _ item node in
    subst (λ a. slot_in keys a.to < c.loop-node.plan.named) (sym c.index-assigns-node.is) (omega (arith, low, c.loop-node.invariant.names))

pub loop-node-preserved : goal.loop-node-preserved
loop-node-preserved c =
    let keys = map (λ k. k.now) c.args.slots.now.keys in
    let assigns = map assign_of c.args.assigns.now in
    let step = step_at keys assigns in
    let order = c.args.order.now in
    let i = c.loop-node.node-index in
    let t = get_or order i 0 in
    let old = c.loop-node.plan in
    let new = c.push_assign.new.plan in
    let low : i < length order = omega arith in
    let node : t < length c.args.assigns.now = c.requires.nodes i 0 low in
    let assign : get_or assigns t no_assign ≡ assign_of c.index-assigns-node.result =
    get_or-map assign_of c.args.assigns.now t c.index-assigns-node.result no_assign node ∙ ap assign_of (sym c.index-assigns-node.is) in
    let next : Adds (step t) old new = subst (λ a. Adds (assign_step keys a) old new) (sym assign) c.in_ok-push_assign.ensures in
    let more : map step (take (i + 1) order) ≡ map step (take i order) ++ step t ∷ [] =
    ap (map step) (take_more order i 0 low) ∙ map-append step (take i order) (t ∷ []) in
    record {
      names = next.named ∙ c.loop-node.invariant.names;
      steps = subst (λ l. Makes new l) (sym more) (next.makes (map step (take i order)) c.loop-node.invariant.steps);
    }

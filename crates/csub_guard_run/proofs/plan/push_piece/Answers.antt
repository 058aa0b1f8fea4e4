use Rattle.std.proofs.Common.{ℕ, List, [], ◌∷◌, ◌++◌, map, sym, ap, ◌∙◌, subst}
use Rattle.csub_guard.specs.Views.{piece_of}
use Rattle.csub_text.specs.Views.{assign_of}
use Rattle.csub_guard_run.specs.declared.plan.Body.{Body}
use Rattle.csub_guard_run.specs.Plans.{IsBody, IsStretch, PieceFits}
use Rattle.csub_guard_run.proofs.Bodies.{body-block}
use Rattle.run_steps.specs.Slots.{slot_in}
use Rattle.csub_guard_run.proofs.plan.push_piece.Goals as goal

pub returns-in_ok-push-in-If : goal.returns-in_ok-push-in-If
returns-in_ok-push-in-If c =
    let names : List (List ℕ) = map (λ k. k.now) c.args.slots.now.keys in
    let fits = subst (λ p. PieceFits names (piece_of p)) c.in-If.is c.requires.fits in
    let block = c.block_of-block in
    let halves = c.in_ok-halves-in-If in
    let one = subst (IsStretch names (map assign_of c.in-If.first.items)) (sym block.ensures.first)
    (subst (λ l. IsStretch names (map assign_of l) halves.halves.first) c.deref.ensures.value halves.ensures.first) in
    let two = subst (IsStretch names (map assign_of c.in-If.second.items)) (sym block.ensures.second)
    (subst (λ l. IsStretch names (map assign_of l) halves.halves.second) c.deref-in-If.ensures.value halves.ensures.second) in
    let test = block.ensures.test ∙ c.slot_of.ensures ∙ ap (slot_in names) c.bytes.ensures in
    let new : Body = record { blocks = c.push.new.self; last = c.replace-before.new.dest } in
    λ pieces is. subst (λ p. IsBody names (pieces ++ piece_of p ∷ []) new) (sym c.in-If.is)
    (body-block names pieces c.args.body.now new block.result c.in-If.test (map assign_of c.in-If.first.items) (map assign_of c.in-If.second.items) is
    c.in_ok-push-in-If.ensures.items (block.ensures.before ∙ c.replace-before.ensures.value) test fits.0 one two
    (subst (IsStretch names []) (sym c.replace-before.ensures.after) c.in_ok-next-in-If.ensures))

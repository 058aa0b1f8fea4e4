use Rattle.std.proofs.Common.{[], ◌∷◌, ◌++◌, slice_index_or, ap, ◌∙◌, arith}
use Rattle.net_follow.specs.declared.literals.Equation.{Equation}
use Rattle.net_follow.specs.Frames.{shows_equation}
use Rattle.net_follow.proofs.Listing.{outputs-pushed}
use Rattle.net_follow.proofs.frames.push_outputs.Goals as goal

pub loop-k-preserved : goal.loop-k-preserved
loop-k-preserved c =
    let before = c.loop-k.list.items in
    let o = c.index-old-k in
    let p = c.index-new-k in
    let made = c.shows_equation.ensures ∙ (λ i. shows_equation (slice_index_or c.args.new.now c.loop-k.k p.result).net.0 (o.is i).net.0) in
    outputs-pushed c.args.old.now c.args.new.now c.loop-k.k o.result p.result c.args.list.now.items before _ (omega arith) c.requires.same_count
    c.loop-k.invariant (c.in_ok-push.ensures.items ∙ ap (λ (e : Equation). before ++ e ∷ []) made)

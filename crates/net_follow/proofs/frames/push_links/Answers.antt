use Rattle.std.proofs.Common.{[], ◌∷◌, ◌++◌, true, false, ap, ◌∙◌, arith}
use Rattle.net_ir.specs.declared.netlist.Latch.{Latch}
use Rattle.net_follow.specs.declared.literals.Equation.{Equation}
use Rattle.net_follow.specs.Frames.{net_literal, copy_equation}
use Rattle.net_follow.proofs.Listing.{pushed}
use Rattle.net_follow.proofs.frames.push_links.Goals as goal

pub loop-k-preserved : goal.loop-k-preserved
loop-k-preserved c =
    let before = c.loop-k.list.items in
    let d : Latch = record { init = false; from = record { 0 = 0 } } in
    let made = c.copy_equation.ensures ∙ (λ i. copy_equation (c.net_literal.ensures i) (c.net_literal-in-loop-k.ensures i)) in
    pushed (λ n (l : Latch). copy_equation (net_literal true c.args.side n) (net_literal false c.args.side l.from.0)) c.args.first c.args.latches.now
    c.loop-k.k d c.args.list.now.items before _ (omega arith) c.loop-k.invariant
    (c.in_ok-push.ensures.items ∙ ap (λ (e : Equation). before ++ e ∷ []) made)

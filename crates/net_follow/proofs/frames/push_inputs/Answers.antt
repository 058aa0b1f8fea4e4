use Rattle.std.proofs.Common.{◌≡◌, ℕ, ◌+◌, [], ◌∷◌, ◌++◌, List, ap, ◌∙◌, arith}
use Rattle.net_follow.specs.declared.literals.Side.TheVariants.{Old, New}
use Rattle.net_follow.specs.declared.literals.Equation.{Equation}
use Rattle.net_follow.specs.Frames.{net_literal, copy_equation}
use Rattle.net_follow.proofs.Listing.{pushed}
use Rattle.net_follow.proofs.frames.push_inputs.Goals as goal

pub loop-k-preserved : goal.loop-k-preserved
loop-k-preserved c =
    let before = c.loop-k.list.items in
    let d : List ℕ = [] in
    let late = c.args.late in
    let here : c.loop-k.k ≡ 0 + c.loop-k.k = omega arith in
    let made = c.copy_equation.ensures ∙ (λ i. copy_equation (c.net_literal.ensures i) (c.net_literal-in-loop-k.ensures i))
    ∙ ap (λ (n : ℕ). copy_equation (net_literal late New n) (net_literal late Old n)) here in
    pushed (λ n (x : List ℕ). copy_equation (net_literal late New n) (net_literal late Old n)) 0 c.args.inputs.now c.loop-k.k d c.args.list.now.items
    before _ (omega arith) c.loop-k.invariant (c.in_ok-push.ensures.items ∙ ap (λ (e : Equation). before ++ e ∷ []) made)

use Rattle.std.proofs.Common.{[], ◌∷◌, ◌++◌, false, ap, ◌∙◌, arith}
use Rattle.net_ir.specs.declared.netlist.Latch.{Latch}
use Rattle.net_ir.specs.declared.netlist.Op.TheVariants.{Const}
use Rattle.net_follow.specs.declared.literals.Equation.{Equation}
use Rattle.net_follow.specs.Frames.{gate_equation}
use Rattle.net_follow.proofs.Listing.{pushed}
use Rattle.net_follow.proofs.frames.push_inits.Goals as goal

pub loop-k-preserved : goal.loop-k-preserved
loop-k-preserved c =
    let before = c.loop-k.list.items in
    let d : Latch = record { init = false; from = record { 0 = 0 } } in
    pushed (λ n (l : Latch). gate_equation false c.args.side n (Const l.init)) c.args.first c.args.latches.now c.loop-k.k d c.args.list.now.items before _
    (omega arith) c.loop-k.invariant (c.in_ok-push.ensures.items ∙ ap (λ (e : Equation). before ++ e ∷ []) c.gate_equation.ensures)

use Rattle.std.proofs.Common.{[], ◌∷◌, ◌++◌, false, None, ap, ◌∙◌, arith}
use Rattle.net_ir.specs.declared.netlist.Gate.{Gate}
use Rattle.net_ir.specs.declared.netlist.Op.TheVariants.{Const}
use Rattle.net_follow.specs.declared.literals.Equation.{Equation}
use Rattle.net_follow.specs.Frames.{gate_equation}
use Rattle.net_follow.proofs.Listing.{pushed}
use Rattle.net_follow.proofs.frames.push_gates.Goals as goal

pub loop-k-preserved : goal.loop-k-preserved
loop-k-preserved c =
    let before = c.loop-k.list.items in
    let d : Gate = record { op = Const false; wire = None } in
    pushed (λ n (g : Gate). gate_equation c.args.late c.args.side n g.op) c.args.first c.args.gates.now c.loop-k.k d c.args.list.now.items before _
    (omega arith) c.loop-k.invariant (c.in_ok-push.ensures.items ∙ ap (λ (e : Equation). before ++ e ∷ []) c.gate_equation.ensures)

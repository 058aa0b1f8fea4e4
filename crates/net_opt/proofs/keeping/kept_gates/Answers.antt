use Rattle.std.proofs.Common.{[], ◌∷◌, ◌++◌, false, None, sym, ap, ◌∙◌, Vec, Global}
use Rattle.net_ir.specs.declared.netlist.Op.TheVariants.{Const}
use Rattle.net_ir.specs.declared.netlist.Gate.{Gate}
use Rattle.net_simp.specs.Renaming.{stand_in}
use Rattle.net_opt.specs.Keeping.{kept_gate}
use Rattle.net_opt.proofs.Kept.{kept-more, kept-past}
use Rattle.net_opt.proofs.keeping.kept_gates.Goals as goal
use Rattle.net_opt.proofs.keeping.kept_gates.Goals.{then-marks-first+in_ok-push, else-marks-first}

pub loop-k-preserved : goal.loop-k-preserved
loop-k-preserved c =
    let gates = c.args.gates.now in
    let marks = c.args.marks.now in
    let k = c.loop-k.k in
    let f = kept_gate (stand_in c.args.names.now) in
    let d : Gate = record { op = Const false; wire = None } in
    elim c.if-marks-first.branch [
      | then-marks-first+in_ok-push w ↦ ap (λ (v : Vec Gate Global). v.items) w.left-is ∙ w.in_ok-push.ensures.items
          ∙ (λ i. c.loop-k.invariant i ++ record { op = w.renamed_op-op.ensures i; wire = None } ∷ [])
          ∙ sym (kept-more f marks c.args.first k gates d c.loop-k-test.true w.if-marks-first.true)
      | else-marks-first w ↦ ap (λ (v : Vec Gate Global). v.items) w.left-is ∙ c.loop-k.invariant
          ∙ sym (kept-past f marks c.args.first k gates d c.loop-k-test.true w.if-marks-first.false)
    ]

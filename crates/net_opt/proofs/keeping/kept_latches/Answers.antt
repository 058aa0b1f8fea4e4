use Rattle.std.proofs.Common.{[], ◌∷◌, ◌++◌, false, slice_index_or, sym, ap, ◌∙◌, Vec, Global}
use Rattle.net_ir.specs.declared.netlist.Latch.{Latch}
use Rattle.net_simp.specs.Renaming.{stand_in, renamed_latch}
use Rattle.net_opt.proofs.Kept.{kept-more, kept-past}
use Rattle.net_opt.proofs.keeping.kept_latches.Goals as goal
use Rattle.net_opt.proofs.keeping.kept_latches.Goals.{then-marks-first+in_ok-push, else-marks-first}

pub loop-k-preserved : goal.loop-k-preserved
loop-k-preserved c =
    let latches = c.args.latches.now in
    let marks = c.args.marks.now in
    let k = c.loop-k.k in
    let f = renamed_latch (stand_in c.args.names.now) in
    let d : Latch = record { init = false; from = record { 0 = 0 } } in
    elim c.if-marks-first.branch [
      | then-marks-first+in_ok-push w ↦ ap (λ (v : Vec Latch Global). v.items) w.left-is ∙ w.in_ok-push.ensures.items
          ∙ (λ i. c.loop-k.invariant i ++ record { init = (slice_index_or latches k d).init; from = record { 0 = w.stand_in-from.ensures i } } ∷ [])
          ∙ sym (kept-more f marks c.args.first k latches d c.loop-k-test.true w.if-marks-first.true)
      | else-marks-first w ↦ ap (λ (v : Vec Latch Global). v.items) w.left-is ∙ c.loop-k.invariant
          ∙ sym (kept-past f marks c.args.first k latches d c.loop-k-test.true w.if-marks-first.false)
    ]
